use Rattle.std.proofs.Common.{◌≡◌, ◌∙◌, ap, arith}
use Rattle.std.proofs.lemmas.Bool.Decides.{nat_tests}
use Rattle.std.specs.Prelude.{◌&&◌, nat_lt}
use Rattle.vme_bus.specs.Layouts.{slot_is_on, is_on}
use Rattle.vme_bus.proofs.Boards.{all_below}
use Rattle.vme_bus.proofs.layouts.slots_on.Goals as goal

pub returns : goal.returns
returns c s =
    let p = c.args.plan.now in
    let ended : c.loop-slot.slot ≡ 22 = grind (arith, nat_tests, c.loop-slot.auto.slot-end, c.loop-slot-test.false) in
    c.loop-slot.invariant.held s
    ∙ ap (λ n. nat_lt s n && slot_is_on p c.args.line s) ended
    ∙ all_below p c.loop-slot.invariant.accepted s (is_on c.args.line)
