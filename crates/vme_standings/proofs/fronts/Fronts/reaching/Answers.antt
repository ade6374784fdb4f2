use Rattle.std.proofs.Common.{◌≡◌, ◌∙◌, ◌<◌, ℕ, Bool, true, false, sym, ap, refl, below_more, arith}
use Rattle.std.proofs.lemmas.Bool.Decides.{nat_tests}
use Rattle.std.specs.Prelude.{◌==◌, ◌||◌}
use Rattle.vme_bus.specs.declared.sets.SlotSet.{SlotSet}
use Rattle.vme_bus.specs.Sets.{has}
use Rattle.vme_standings.specs.Fronts.{input_place}
use Rattle.vme_standings.proofs.Tests.{never, or_left, or_true}
use Rattle.vme_standings.proofs.fronts.Fronts.reaching.Goals as goal
use Rattle.vme_standings.proofs.fronts.Fronts.reaching.Goals.{then-is_reached, else-is_reached}

itself : (n : ℕ) → (n == n) ≡ true
itself n = grind (arith, nat_tests)

same : (m n : ℕ) → (m == n) ≡ true → m ≡ n
same m n e = grind (arith, nat_tests)

-- one of two holds
one_of : {X : Type 0} (a o : Bool) → (a || o) ≡ true → (a ≡ true → X) → (o ≡ true → X) → X
one_of true o e f g = f refl
one_of false o e f g = g e

pub loop-slot-preserved : goal.loop-slot-preserved
loop-slot-preserved c =
    let p = c.args.plan.now in
    let k = c.loop-slot.slot in
    elim c.if-is_reached.branch [
      | then-is_reached w ↦ record {
        all = below_more _ _
            (λ s l from on. ap (λ (x : SlotSet). has x (input_place p s)) w.ends-is ∙ w.or-ends.ensures (input_place p s) ∙ or_left _ _ (c.loop-slot.invariant.all s l from on))
            (λ from on. ap (λ (x : SlotSet). has x (input_place p k)) w.ends-is ∙ w.or-ends.ensures (input_place p k) ∙ or_true _ _ (w.input_of.ensures (input_place p k) ∙ itself (input_place p k)));
        only = λ t h.
            one_of {X = (s : ℕ) × (0 < s) × (s < 22) × (has c.args.boards s ≡ true) × (t ≡ input_place p s)} (has c.loop-slot.ends t) (has w.input_of.result t)
            (sym (w.or-ends.ensures t) ∙ ap (λ (x : SlotSet). has x t) (sym w.ends-is) ∙ h)
            (c.loop-slot.invariant.only t)
            (λ on.
            let from : 0 < k = omega arith in
            let near : k < 22 = omega arith in
            (k, from, near, sym c.has-is_reached.ensures ∙ w.if-is_reached.true, same t (input_place p k) (sym (w.input_of.ensures t) ∙ on)));
      }
      | else-is_reached w ↦ record {
        all = below_more _ _
            (λ s l from on. ap (λ (x : SlotSet). has x (input_place p s)) w.ends-is ∙ c.loop-slot.invariant.all s l from on)
            (λ from on. absurd (never _ on (sym c.has-is_reached.ensures ∙ w.if-is_reached.false)));
        only = λ t h. c.loop-slot.invariant.only t (ap (λ (x : SlotSet). has x t) (sym w.ends-is) ∙ h);
      }
    ]
