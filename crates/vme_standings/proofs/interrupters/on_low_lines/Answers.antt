use Rattle.std.proofs.Common.{◌≡◌, ◌∙◌, ◌+◌, ap, sym, arith}
use Rattle.std.proofs.lemmas.Bool.Decides.{nat_tests}
use Rattle.std.specs.Prelude.{◌&&◌, nat_lt}
use Rattle.vme_bus.specs.declared.sets.SlotSet.{SlotSet}
use Rattle.vme_bus.specs.Sets.{has}
use Rattle.vme_standings.specs.Interrupters.{is_line_low_of, is_on_low_line}
use Rattle.vme_standings.proofs.Slots.{all_within}
use Rattle.vme_standings.proofs.Loops.{one_more, none_more}
use Rattle.vme_standings.proofs.interrupters.on_low_lines.Goals as goal
use Rattle.vme_standings.proofs.interrupters.on_low_lines.Goals.{then-is_on_low_line, else-is_on_low_line}

pub loop-slot-preserved : goal.loop-slot-preserved
loop-slot-preserved c =
    λ s. elim c.if-is_on_low_line.branch [
      | then-is_on_low_line w ↦
          ap (λ (x : SlotSet). has x s) w.slots-is
          ∙ one_more (is_on_low_line c.args.lines.now c.args.plan.now) (has c.loop-slot.slots) (has w.with-slots.result) c.loop-slot.slot c.loop-slot.invariant
          (sym c.is_on_low_line.ensures ∙ w.if-is_on_low_line.true) w.with-slots.ensures.same w.with-slots.ensures.others s
      | else-is_on_low_line w ↦
          ap (λ (x : SlotSet). has x s) w.slots-is
          ∙ none_more (is_on_low_line c.args.lines.now c.args.plan.now) (has c.loop-slot.slots) c.loop-slot.slot c.loop-slot.invariant
          (sym c.is_on_low_line.ensures ∙ w.if-is_on_low_line.false) s
    ]

pub returns : goal.returns
returns c s =
    let p = c.args.plan.now in
    let ended : c.loop-slot.slot ≡ p.slots + 1 = grind (arith, nat_tests, c.loop-slot.auto.slot-end, c.loop-slot-test.false, c.slots_end-slot-end.ensures.end) in
    c.loop-slot.invariant s
    ∙ ap (λ n. nat_lt s n && is_on_low_line c.args.lines.now p s) ended
    ∙ all_within p c.accepted.ensures s (is_line_low_of c.args.lines.now)
