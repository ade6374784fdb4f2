-- A legal history that is made once more on a backplane of its own plan.
use Rattle.std.proofs.Common.{◌≡◌, ℕ, ◌+◌, ◌<◌, ◌≤◌, List, length, reverse, take, Bool, true, false, sym, ap, ◌∙◌, arith}
use Rattle.std.specs.Prelude.{◌==◌, not, Option, Some, Result, Ok, Err, is_ok, is_err, slice_get, if◌then◌else◌}
use Rattle.std.proofs.lemmas.List.{length-reverse, length-take-le}
use Rattle.std.proofs.lemmas.Bool.Decides.{nat_tests}
use Rattle.vme_model.specs.declared.signals.Edge.{Edge}
use Rattle.vme_model.specs.declared.deliveries.Delivery.{Delivery}
use Rattle.vme_model.specs.declared.refusals.Refused.{Refused}
use Rattle.vme_model.specs.declared.refusals.Refused.TheVariants.{TraceFull}
use Rattle.vme_model.specs.History.{in_order}
use Rattle.vme_model.specs.Verdict.{State, IsLegal, check, verdict, made, after}
use Rattle.vme_histories.proofs.Judged.{passed}
use Rattle.vme_backplane.proofs.Replayed.{next_edge, was_allowed, all_made}

-- a backplane with only the first i edges of its history
abbrev pub front : State → ℕ → State
front b i = record b { history = reverse (take i (in_order b.history)) }

not_full : (m n max : ℕ) → m < n → n ≤ max → (m == max) ≡ false
not_full m n max below fits = grind (arith, nat_tests)

front_length : (b : State) (i : ℕ) → i < length b.history → length (front b i).history ≡ i
front_length b i within =
    length-reverse (take i (in_order b.history)) ∙ length-take-le i (in_order b.history) (omega (arith, length-reverse b.history))

-- the next edge is accepted
pub accepted : (b : State) (i : ℕ) (e : Edge) → IsLegal b.version b.plan b.history → length b.history ≤ b.max → i < length b.history → slice_get (in_order b.history) i ≡ Some e
    → verdict (front b i) e ≡ Ok tt
accepted b i e legal fits within is =
    let room : (length (front b i).history == b.max) ≡ false = not_full (length (front b i).history) (length b.history) b.max (omega (arith, front_length b i within)) fits in
    passed b.version b.plan (front b i).history e (check (not (length (front b i).history == b.max)) TraceFull (Ok tt))
    (was_allowed b.version b.plan b.history i e legal is)
    ∙ ap (λ (full : Bool). check (not full) TraceFull (Ok tt)) room

-- after that the edge stands in the history
pub goes_on : (b again new : State) (i : ℕ) (e : Edge) → IsLegal b.version b.plan b.history → length b.history ≤ b.max → i < length b.history → slice_get (in_order b.history) i ≡ Some e
    → again ≡ front b i → new ≡ after again e → new ≡ front b (i + 1)
goes_on b again new i e legal fits within is so_far state =
    state ∙ ap (λ (x : State). after x e) so_far
    ∙ ap (λ j. if is_ok j then made (front b i) e else front b i) (accepted b i e legal fits within is)
    ∙ ap (λ (h : List Edge). record b { history = h }) (sym (next_edge (in_order b.history) i e is))

-- so the edge is not refused
pub never_refused : (b again : State) (i : ℕ) (e : Edge) (r : Result (Option Delivery) Refused) → IsLegal b.version b.plan b.history →
    length b.history ≤ b.max → i < length b.history → slice_get (in_order b.history) i ≡ Some e → again ≡ front b i → is_ok r ≡ is_ok (verdict again e) → is_err r ≡ true → ⊥
never_refused b again i e (Ok d) legal fits within is so_far same refused = cc
never_refused b again i e (Err f) legal fits within is so_far same refused =
    let fine : is_ok (verdict again e) ≡ true = ap (λ (x : State). is_ok (verdict x e)) so_far ∙ ap is_ok (accepted b i e legal fits within is) in
    cc

-- the whole history
pub whole : (b : State) → front b (length b.history) ≡ b
whole b = ap (λ (h : List Edge). record b { history = h }) (all_made b.history)
