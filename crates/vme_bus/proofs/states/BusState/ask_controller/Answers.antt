use Rattle.std.proofs.Common.{◌≡◌, ◌∙◌, subst, true}
use Rattle.vme_model.specs.declared.signals.Driver.TheVariants.{Controller}
use Rattle.vme_model.specs.Signals.{has_wire, has_value}
use Rattle.vme_model.specs.Readings.{readings}
use Rattle.vme_model.proofs.Bools.{and_left}
use Rattle.vme_bus.proofs.Asked.{asked_so}
use Rattle.vme_bus.proofs.Parts.{controllers_alone}
use Rattle.vme_bus.proofs.states.BusState.ask_controller.Goals as goal

pub returns-in-Controller : goal.returns-in-Controller
returns-in-Controller c version p h is exists =
    let e = c.args.edge in
    let own = subst (λ d. has_wire d e.wire ≡ true) c.in-Controller.is (and_left (has_wire e.driver e.wire) (has_value e.wire e.fall e.value) c.requires.formed) in
    c.asked.ensures
    ∙ asked_so version p h Controller e _ _ _ c.in-Controller.is
    (c.is_control_low.ensures version p h is)
    (c.controller_rule-ruled.ensures.number version (readings p h Controller) e.value own)
    (c.controller_rule-ruled.ensures.answer version p h is e.value own)

pub returns-in-Slot : goal.returns-in-Slot
returns-in-Slot c version p h is exists =
    absurd (controllers_alone c.args.edge c.in-Slot.field-0 c.in-Slot.is c.requires.part c.requires.formed)
