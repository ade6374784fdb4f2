use Rattle.std.proofs.Common.{◌≡◌, ◌∙◌, ◌+◌, ap, sym, arith}
use Rattle.std.proofs.lemmas.Bool.Decides.{nat_tests}
use Rattle.std.specs.Prelude.{◌&&◌, nat_lt}
use Rattle.vme_bus.specs.declared.sets.SlotSet.{SlotSet}
use Rattle.vme_bus.specs.Sets.{has}
use Rattle.vme_standings.specs.Interrupters.{is_meant, is_meant_at}
use Rattle.vme_standings.proofs.Slots.{all_within}
use Rattle.vme_standings.proofs.Loops.{one_more, none_more}
use Rattle.vme_standings.proofs.interrupters.Interrupters.slots.Goals as goal
use Rattle.vme_standings.proofs.interrupters.Interrupters.slots.Goals.{then-has_at, else-has_at}

pub loop-slot-preserved : goal.loop-slot-preserved
loop-slot-preserved c =
    λ s. elim c.if-has_at.branch [
      | then-has_at w ↦
          ap (λ (x : SlotSet). has x s) w.slots-is
          ∙ one_more (is_meant_at c.args.self c.args.plan.now) (has c.loop-slot.slots) (has w.with-slots.result) c.loop-slot.slot c.loop-slot.invariant
          (sym c.has_at.ensures ∙ w.if-has_at.true) w.with-slots.ensures.same w.with-slots.ensures.others s
      | else-has_at w ↦
          ap (λ (x : SlotSet). has x s) w.slots-is
          ∙ none_more (is_meant_at c.args.self c.args.plan.now) (has c.loop-slot.slots) c.loop-slot.slot c.loop-slot.invariant
          (sym c.has_at.ensures ∙ w.if-has_at.false) s
    ]

pub returns : goal.returns
returns c s =
    let p = c.args.plan.now in
    let ended : c.loop-slot.slot ≡ p.slots + 1 = grind (arith, nat_tests, c.loop-slot.auto.slot-end, c.loop-slot-test.false, c.slots_end-slot-end.ensures.end) in
    c.loop-slot.invariant s
    ∙ ap (λ n. nat_lt s n && is_meant_at c.args.self p s) ended
    ∙ all_within p c.accepted.ensures s (is_meant c.args.self)
