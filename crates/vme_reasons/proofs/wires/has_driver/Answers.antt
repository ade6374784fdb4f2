use Rattle.std.proofs.Common.{◌∙◌, sym, ap}
use Rattle.std.specs.Option.{option_copied}
use Rattle.vme_reasons.proofs.OnPlan.{wire_of_board}
use Rattle.vme_reasons.proofs.wires.has_driver.Goals as goal

pub returns-in-Some-clause-wire : goal.returns-in-Some-clause-wire
returns-in-Some-clause-wire c = λ drives.
    wire_of_board c.args.plan.now c.accepted.ensures c.args.driver c.args.wire c.in-Slot.slot c.in-Some.row.now c.in-Slot.is
    (sym c.row.ensures ∙ ap option_copied c.in-Some.is) (sym c.drives.ensures ∙ drives)
