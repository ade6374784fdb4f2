use Rattle.std.proofs.Common.{◌∙◌}
use Rattle.vme_model.specs.declared.signals.Wire.TheVariants.{IackOut}
use Rattle.vme_bus.proofs.Outputs.{outputs_held, clear}
use Rattle.vme_bus.proofs.states.BusState.is_acknowledge_clear.Goals as goal

pub returns : goal.returns
returns c version p h is =
    clear version p h c.of_slots.result c.has.result is.accepted is.legal
    (outputs_held version p h IackOut c.args.self.now.acknowledges c.of_slots.result is.accepted is.legal is.acknowledges c.of_slots.ensures)
    (c.has.ensures ∙ is.acknowledges_head)
    c.is_some.result c.is_some.ensures.some c.is_some.ensures.none
