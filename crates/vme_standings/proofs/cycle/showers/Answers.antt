use Rattle.std.proofs.Common.{◌≡◌, ◌∙◌, ℕ, Bool, true, false, refl, sym, ap, arith}
use Rattle.std.proofs.lemmas.Bool.Decides.{nat_tests}
use Rattle.std.specs.Prelude.{◌&&◌, nat_lt}
use Rattle.vme_bus.specs.declared.sets.SlotSet.{SlotSet}
use Rattle.vme_bus.specs.Sets.{has}
use Rattle.vme_bus.proofs.Boards.{all_below}
use Rattle.vme_standings.specs.Cycles.{may_show, may_show_at}
use Rattle.vme_standings.proofs.Loops.{one_more, none_more}
use Rattle.vme_standings.proofs.Tests.{both, and_false, and_false_right}
use Rattle.vme_standings.proofs.cycle.showers.Goals as goal
use Rattle.vme_standings.proofs.cycle.showers.Goals.{then-may_show_at+then-has, else-may_show_at, else-may_show_at-via-then-may_show_at+else-has, else-may_show_at-via-else-may_show_at}

grouped : (a b x : Bool) → (a && (b && x)) ≡ ((a && b) && x)
grouped true b x = refl
grouped false b x = refl

pub loop-slot-preserved : goal.loop-slot-preserved
loop-slot-preserved c =
    let f = λ (s : ℕ). may_show_at c.args.cycle c.args.plan.now s && has c.args.holders s in
    λ s. elim c.if-may_show_at.branch [
      | then-may_show_at+then-has w ↦
          ap (λ (x : SlotSet). has x s) w.slots-is
          ∙ one_more f (has c.loop-slot.slots) (has w.with-slots.result) c.loop-slot.slot c.loop-slot.invariant
          (both _ _ (sym c.may_show_at.ensures ∙ w.if-may_show_at.true) (sym w.has.ensures ∙ w.if-has.true)) w.with-slots.ensures.same w.with-slots.ensures.others s
      | else-may_show_at w ↦
          let off : f c.loop-slot.slot ≡ false = elim w.else-may_show_at.branch [
            | else-may_show_at-via-then-may_show_at+else-has x ↦ and_false_right _ _ (sym x.has.ensures ∙ x.if-has.false)
            | else-may_show_at-via-else-may_show_at x ↦ and_false _ _ (sym c.may_show_at.ensures ∙ x.if-may_show_at.false)
          ] in
          ap (λ (x : SlotSet). has x s) w.slots-is ∙ none_more f (has c.loop-slot.slots) c.loop-slot.slot c.loop-slot.invariant off s
    ]

pub returns : goal.returns
returns c s =
    let p = c.args.plan.now in
    let ended : c.loop-slot.slot ≡ 22 = grind (arith, nat_tests, c.loop-slot.auto.slot-end, c.loop-slot-test.false) in
    c.loop-slot.invariant s
    ∙ ap (λ n. nat_lt s n && (may_show_at c.args.cycle p s && has c.args.holders s)) ended
    ∙ grouped (nat_lt s 22) (may_show_at c.args.cycle p s) (has c.args.holders s)
    ∙ ap (λ b. b && has c.args.holders s) (all_below p c.accepted.ensures s (may_show c.args.cycle))
