-- An offer is an edge that would be accepted.
use Rattle.std.proofs.Common.{◌≡◌, ◌∙◌, refl, sym, ap, ℕ, zero, suc, Bool, true, false, List, [], ◌∷◌, filter, length}
use Rattle.std.specs.Prelude.{◌==◌, ◌&&◌, not, if◌then◌else◌, Some, Ok, Err, is_ok, slice_get}
use Rattle.vme_model.specs.declared.refusals.Refused.{Refused}
use Rattle.vme_model.specs.declared.refusals.Refused.TheVariants.{NoSuchDriver, AlreadyThere, Rule, NotSettled, TraceFull}
use Rattle.vme_model.specs.declared.signals.Driver.{Driver}
use Rattle.vme_model.specs.declared.signals.Edge.{Edge}
use Rattle.vme_model.specs.Signals.{is_well_formed}
use Rattle.vme_model.specs.Plan.{has_driver}
use Rattle.vme_model.specs.History.{drive}
use Rattle.vme_model.specs.Readings.{readings}
use Rattle.vme_model.specs.Rules.{rule}
use Rattle.vme_model.specs.Settling.{settling}
use Rattle.vme_model.specs.Verdict.{State, Judgement, check, is_other_state, settled, verdict, verdict_but_full}
use Rattle.vme_model.specs.Deliveries.{answer, delivery, with_delivery}
use Rattle.vme_model.specs.Offers.{offered, considered, wires}
use Rattle.std.specs.List.{flat_map}

-- what a filter keeps passes its test
abbrev Passes : {A : Type 0} → (A → Bool) → List A → A → Type 0
Passes {A} f xs x = (k : ℕ) → slice_get (filter f xs) k ≡ Some x → f x ≡ true

passes_more : {A : Type 0} (f : A → Bool) (y : A) (ys : List A) (x : A) (b : Bool) → f y ≡ b → Passes f ys x → (k : ℕ) → slice_get (if b then y ∷ filter f ys else filter f ys) k ≡ Some x → f x ≡ true
passes_more {A} f y ys x true holds rest zero e = let same : y ≡ x = cc in sym (ap f same) ∙ holds
passes_more {A} f y ys x true holds rest (suc k) e = rest k e
passes_more {A} f y ys x false holds rest k e = rest k e

kept_passes : {A : Type 0} (f : A → Bool) (xs : List A) (x : A) → Passes f xs x
kept_passes {A} f [] x k is = absurd (cc)
kept_passes {A} f (y ∷ ys) x k is = passes_more f y ys x (f y) refl (kept_passes f ys x) k is

-- a verdict that is Ok passed each of its tests
five_passed : (a b c d r : Bool) (w x y z t : Refused) → is_ok {T = Unit {0}} {E = Refused} (check a w (check b x (check c y (check d z (check r t (Ok tt)))))) ≡ true
    → (check a w (check b x (check c y (check d z (Ok tt)))) ≡ Ok tt) × (r ≡ true)
five_passed true true true true true w x y z t holds = (refl, refl)
five_passed a b c d r w x y z t holds = absurd (cc)

not_true : (b : Bool) → not b ≡ true → b ≡ false
not_true false holds = refl
not_true true holds = absurd (cc)

module _ (b : State) (e : Edge) (accepted : verdict b e ≡ Ok tt) where
  passed : (verdict_but_full b.version b.plan b.history e ≡ Ok tt) × (not (length b.history == b.max) ≡ true)
  passed =
      five_passed (is_well_formed e && has_driver b.plan e.driver e.wire) (is_other_state (drive b.history e.driver e.wire) e.fall)
      (rule b.version (readings b.plan b.history e.driver) e.wire e.fall e.value).1 (settled b.version b.plan b.history e) (not (length b.history == b.max))
      NoSuchDriver AlreadyThere (Rule (rule b.version (readings b.plan b.history e.driver) e.wire e.fall e.value).0) (NotSettled (settling b.version b.plan b.history e.wire e.fall).0)
      TraceFull (ap is_ok accepted)

  pub is_allowed : verdict_but_full b.version b.plan b.history e ≡ Ok tt
  is_allowed = passed.0

  pub has_room : (length b.history == b.max) ≡ false
  has_room = not_true (length b.history == b.max) passed.1

fine : (j : Judgement) → is_ok j ≡ true → j ≡ Ok tt
fine (Ok x) holds = refl
fine (Err r) holds = absurd (cc)

pub offer_is_accepted : (b : State) (d : Driver) (k : ℕ) (e : Edge) → slice_get (offered b d) k ≡ Some e → verdict b e ≡ Ok tt
offer_is_accepted b d k e is = fine (verdict b e) (kept_passes (λ x. is_ok (verdict b x)) (flat_map (considered b.plan b.history d) (wires d)) e k is)

-- an edge is answered as it is judged
pub answered : (b : State) (e : Edge) → is_ok (answer b e) ≡ is_ok (verdict b e)
answered b e = by (verdict b e)
  where
    by : (j : Judgement) → is_ok (with_delivery j (delivery b.plan b.history e)) ≡ is_ok j
    by (Ok x) = refl
    by (Err r) = refl
