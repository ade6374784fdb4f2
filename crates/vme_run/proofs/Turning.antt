-- How many edges the drivers make in their turns.
use Rattle.std.proofs.Common.{◌≡◌, ℕ, ◌+◌, ◌*◌, ◌≤◌, List, [], ◌∷◌, length, map, refl, sym, ap, ◌∙◌, arith, All, mul-suc}
use Rattle.std.specs.Prelude.{sum_by}
use Rattle.std.proofs.lemmas.List.{length-map}
use Rattle.std.proofs.lemmas.List.Elements.{All-head, All-tail}
use Rattle.std.proofs.lemmas.List.Sums.{sum_by-cons}
use Rattle.vme_model.specs.declared.signals.Driver.{Driver}
use Rattle.vme_model.specs.declared.signals.Edge.{Edge}
use Rattle.vme_model.specs.Plan.{drivers}
use Rattle.vme_model.specs.Accepted.{IsAccepted}
use Rattle.vme_model.specs.Verdict.{State, IsLegal}
use Rattle.vme_model.specs.Counts.{count}
use Rattle.vme_lock.specs.Seats.{Place, AllWorked, seat_of, seats_of}
use Rattle.vme_lock.specs.Closing.{IsClosing}
use Rattle.vme_lock.specs.Logs.{IsWithin}
use Rattle.vme_lock.proofs.Seating.{all_counted}

-- what all seats made
abbrev all_made : List Place → ℕ
all_made seats = sum_by (λ s. s.made) seats

-- logs that are no longer than the turns
worked_within : (seats after : List Place) (logs : List (List Edge)) (turns edges : ℕ) → AllWorked seats after logs → All (IsWithin turns edges) logs → all_made after ≤ all_made seats + turns * length seats
worked_within [] [] [] turns edges worked short = omega arith
worked_within (s ∷ seats) (t ∷ after) (log ∷ logs) turns edges worked short =
    let here : t.made ≡ s.made + length log = ap (λ x. x.made) worked.0 in
    let one = All-head (IsWithin turns edges) log logs short in
    let rest = worked_within seats after logs turns edges worked.1 (All-tail (IsWithin turns edges) log logs short) in
    omega (arith, here, one.0, rest, mul-suc turns (length seats), sum_by-cons (λ s. s.made) t after, sum_by-cons (λ s. s.made) s seats)
worked_within [] [] (z ∷ logs) turns edges worked short = absurd worked
worked_within [] (y ∷ after) logs turns edges worked short = absurd worked
worked_within (x ∷ seats) [] logs turns edges worked short = absurd worked
worked_within (x ∷ seats) (y ∷ after) [] turns edges worked short = absurd worked

-- what the seats made of a backplane that was opened
opened_with : (b : State) (ds : List Driver) → all_made (map (seat_of b) ds) ≡ sum_by (λ d. count b.history d) ds
opened_with b [] = refl
opened_with b (d ∷ ds) =
    sum_by-cons (λ s. s.made) (seat_of b d) (map (seat_of b) ds)
    ∙ (ap (λ (n : ℕ). count b.history d + n) (opened_with b ds) ∙ sym (sum_by-cons (λ d. count b.history d) d ds))

pub played_within : (opened b : State) (seats after : List Place) (logs : List (List Edge)) (turns edges : ℕ) → IsAccepted opened.plan → IsLegal opened.version opened.plan opened.history
    → seats ≡ seats_of opened → AllWorked seats after logs → All (IsWithin turns edges) logs → IsClosing opened after b
    → length b.history ≤ length opened.history + turns * length (drivers opened.plan)
played_within opened b seats after logs turns edges accepted legal is worked short closing =
    let all : all_made seats ≡ length opened.history = ap all_made is ∙ (opened_with opened (drivers opened.plan) ∙ all_counted opened.version opened.plan opened.history accepted legal) in
    let many : length seats ≡ length (drivers opened.plan) = ap length is ∙ length-map (drivers opened.plan) (seat_of opened) in
    let bound = worked_within seats after logs turns edges worked short in
    omega (arith, all, ap (λ n. turns * n) many, bound, closing.made)
