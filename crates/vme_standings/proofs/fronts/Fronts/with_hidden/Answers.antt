use Rattle.std.proofs.Common.{◌≡◌, ◌≢◌, ◌∙◌, ◌<◌, ◌≤◌, ◌+◌, refl, sym, ap, subst, arith}
use Rattle.std.proofs.lemmas.Bool.Decides.{nat_tests}
use Rattle.std.specs.Prelude.{◌&&◌, ◌||◌}
use Rattle.vme_bus.specs.declared.sets.SlotSet.{SlotSet}
use Rattle.vme_bus.specs.Sets.{has}
use Rattle.vme_standings.specs.Fronts.{input_place}
use Rattle.vme_standings.proofs.Walks.{Walked, from_below, walked_on, walked_by}
use Rattle.vme_standings.proofs.fronts.Fronts.with_hidden.Goals as goal
use Rattle.vme_standings.proofs.fronts.Fronts.with_hidden.Goals.{then-may_move, else-may_move}

pub loop-slot-init : goal.loop-slot-init
loop-slot-init c = record {
  head = c.ends_behind_head-ends.ensures.head;
  below = λ s from near. absurd (omega arith);
  above = λ s from far. c.ends_behind_head-ends.ensures.others s from;
}

pub loop-slot-preserved : goal.loop-slot-preserved
loop-slot-preserved c =
    let one : 1 ≤ c.loop-slot.slot = c.loop-slot.auto.slot in
    let positive : 0 < c.loop-slot.slot = omega arith in
    elim c.if-may_move.branch [
      | then-may_move w ↦ record {
        head =
            let ne : 0 ≢ c.loop-slot.slot = omega arith in
            ap (λ (x : SlotSet). has x 0) w.ends-is ∙ w.with-ends.ensures.others 0 ne ∙ c.loop-slot.invariant.head;
        below =
            subst (λ (x : SlotSet). Walked (has c.args.self.ends) (has c.both-movers.result) (input_place c.args.plan.now) (has x) (c.loop-slot.slot + 1)) (sym w.ends-is)
            (walked_on (has c.args.self.ends) (has c.both-movers.result) (input_place c.args.plan.now) (from_below c.args.plan.now) c.loop-slot.slot positive (has c.loop-slot.ends)
            (has w.with-ends.result)
            c.loop-slot.invariant.below (sym c.may_move.ensures ∙ w.if-may_move.true) w.with-ends.ensures.same w.with-ends.ensures.others);
        above = λ s from far.
            let ne : s ≢ c.loop-slot.slot = omega arith in
            ap (λ (x : SlotSet). has x s) w.ends-is ∙ w.with-ends.ensures.others s ne ∙ c.loop-slot.invariant.above s from (omega arith);
      }
      | else-may_move w ↦ record {
        head = ap (λ (x : SlotSet). has x 0) w.ends-is ∙ c.loop-slot.invariant.head;
        below =
            subst (λ (x : SlotSet). Walked (has c.args.self.ends) (has c.both-movers.result) (input_place c.args.plan.now) (has x) (c.loop-slot.slot + 1)) (sym w.ends-is)
            (walked_by (has c.args.self.ends) (has c.both-movers.result) (input_place c.args.plan.now) (from_below c.args.plan.now) c.loop-slot.slot positive (has c.loop-slot.ends)
            c.loop-slot.invariant.below (sym c.may_move.ensures ∙ w.if-may_move.false) (c.loop-slot.invariant.above c.loop-slot.slot positive (omega arith)));
        above = λ s from far. ap (λ (x : SlotSet). has x s) w.ends-is ∙ c.loop-slot.invariant.above s from (omega arith);
      }
    ]

pub returns : goal.returns
returns c =
    let ended : c.loop-slot.slot ≡ 22 = grind (arith, nat_tests, c.loop-slot.auto.slot-end, c.loop-slot-test.false) in
    record {
      waiting = refl;
      head = c.loop-slot.invariant.head;
      others = λ s from near.
          let l : s < c.loop-slot.slot = omega arith in
          c.loop-slot.invariant.below s from l
          ∙ ap (λ b. has c.args.self.ends s || (b && has c.loop-slot.ends (input_place c.args.plan.now s))) (c.both-movers.ensures.within s near);
    }
