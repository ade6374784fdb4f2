-- One more worker.
use Rattle.std.proofs.Common.{◌≡◌, ◌<◌, ℕ, List, [], ◌∷◌, ◌++◌, length, suc, set, get_or, ap, refl}
use Rattle.std.proofs.Math.Seq.{map-set_same}
use Rattle.vme_model.specs.declared.signals.Edge.{Edge}
use Rattle.vme_lock.specs.Seats.{Place, seat_after, AllWorked, drivers_of}

pub AllWorked-push : (seats after : List Place) (logs : List (List Edge)) (s t : Place) (log : List Edge) → AllWorked seats after logs → t ≡ seat_after s log →
    AllWorked (seats ++ s ∷ []) (after ++ t ∷ []) (logs ++ log ∷ [])
AllWorked-push [] [] [] s t log all is = (is, tt)
AllWorked-push (x ∷ seats) (y ∷ after) (z ∷ logs) s t log all is = (all.0, AllWorked-push seats after logs s t log all.1 is)
AllWorked-push seats after logs s t log all is = absurd all

-- the seats belong to the same drivers
pub same_drivers : (seats after : List Place) (logs : List (List Edge)) → AllWorked seats after logs → drivers_of after ≡ drivers_of seats
same_drivers [] [] [] all = refl
same_drivers (x ∷ seats) (y ∷ after) (z ∷ logs) all =
    let driver = ap (λ s. s.driver) all.0 in
    let others = same_drivers seats after logs all.1 in
    λ i. driver i ∷ others i
same_drivers seats after logs all = absurd all

pub as_many : (seats : List Place) → length (drivers_of seats) ≡ length seats
as_many [] = refl
as_many (s ∷ seats) = ap suc (as_many seats)

-- a seat that made edges stays its driver's
pub drivers_set : (seats : List Place) (i : ℕ) (s : Place) → i < length seats → s.driver ≡ (get_or seats i s).driver → drivers_of (set seats i s) ≡ drivers_of seats
drivers_set seats i s within same = map-set_same (λ x. x.driver) seats i s s same
