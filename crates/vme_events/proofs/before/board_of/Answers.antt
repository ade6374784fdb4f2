use Rattle.std.proofs.Common.{◌∙◌, sym, subst}
use Rattle.vme_model.specs.Accepted.{IsAccepted}
use Rattle.vme_explain.proofs.OnPlan.{driver_of_board}
use Rattle.vme_events.proofs.before.board_of.Goals as goal

pub returns-in-Slot-clause-slot : goal.returns-in-Slot-clause-slot
returns-in-Slot-clause-slot c = λ r found.
    let accepted : IsAccepted c.plan-in-Slot.result.now = subst IsAccepted (c.plan.ensures ∙ sym c.plan-in-Slot.ensures) c.accepted.ensures in
    driver_of_board c.plan-in-Slot.result.now accepted c.args.driver c.in-Slot.slot r c.in-Slot.is
    (sym c.row.ensures ∙ sym c.copied.ensures ∙ found)
