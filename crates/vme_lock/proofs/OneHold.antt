-- What a hold changes in the locked value.
use Rattle.std.proofs.Common.{◌≡◌, ℕ, ◌+◌, ◌∷◌, Bool, true, sym, ap, ◌∙◌, arith}
use Rattle.std.specs.Prelude.{if◌then◌else◌, Option, Result, Ok, is_ok, slice_index, slice_set}
use Rattle.vme_model.specs.declared.signals.Driver.{Driver}
use Rattle.vme_model.specs.declared.signals.Edge.{Edge}
use Rattle.vme_model.specs.declared.deliveries.Delivery.{Delivery}
use Rattle.vme_model.specs.declared.refusals.Refused.{Refused}
use Rattle.vme_model.specs.Signals.{is_same_driver}
use Rattle.vme_model.specs.Verdict.{State, verdict, made, after}
use Rattle.vme_model.specs.Counts.{count}
use Rattle.vme_lock.specs.Seats.{Place, Keeping, IsHeld, can_sit, desk, kept_more}
use Rattle.vme_lock.specs.Holds.{IsOwn}
use Rattle.vme_lock.proofs.OneEdge.{one_driver}
use Rattle.vme_lock.proofs.DeskCounts.{one_if, AreCounts-more, count-made}

-- an accepted edge is made
pub stepped : (b new : State) (e : Edge) (r : Result (Option Delivery) Refused) (d : Option Delivery) → r ≡ Ok d → is_ok r ≡ is_ok (verdict b e) → new ≡ after b e → new ≡ made b e
stepped b new e r d is accepted state =
    let fine : is_ok (verdict b e) ≡ true = sym accepted ∙ ap is_ok is in
    state ∙ ap (λ (x : Bool). if x then made b e else b) fine

held_more : (opened : State) (k : Keeping) (e : Edge) (d : Driver) → IsHeld opened k → can_sit d ≡ true → is_same_driver e.driver d ≡ true → IsHeld opened (kept_more k e d)
held_more opened k e d held sits same =
    let by : e.driver ≡ d = one_driver e.driver d same in
    record {
      follows = (e ∷ held.follows.0, ap (λ (b : State). made b e) held.follows.1);
      counts = AreCounts-more k.counts k.board.history (e ∷ k.board.history) d held.counts sits
          (λ b. count-made k.board.history e b ∙ ap (λ (x : Driver). one_if (is_same_driver x b) + count k.board.history b) by);
      booked = omega (arith, held.booked);
    }

-- an edge of the seat, as the hold sees both
pub own_inside : {k l : Keeping} {s t : Place} (e : Edge) → k ≡ l → s ≡ t → IsOwn l.board t e → IsOwn k.board s e
own_inside {k} {l} {s} {t} e held seat own = rw (held, seat) own

-- one more edge of a driver, at its desk
pub held_after : (opened : State) (k : Keeping) (e : Edge) (d : Driver) (new : State) (at total : ℕ) → IsHeld opened k → can_sit d ≡ true →
    is_same_driver e.driver d ≡ true → new ≡ made k.board e → at ≡ desk d → total ≡ k.total + 1 →
    IsHeld opened (record { board = new; counts = slice_set k.counts at (slice_index k.counts at + 1); total = total })
held_after opened k e d new at total held sits same is place more =
    rw (is, place, more) (held_more opened k e d held sits same)
