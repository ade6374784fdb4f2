use Rattle.vme_model.specs.declared.signals.Wire.TheVariants.{BgOut}
use Rattle.vme_bus.proofs.Outputs.{outputs_held, through}
use Rattle.vme_bus.proofs.states.BusState.are_grants_through.Goals as goal

pub returns : goal.returns
returns c version p h is =
    through version p h c.of_slots.result is.accepted is.legal
    (outputs_held version p h BgOut c.args.self.now.grants c.of_slots.result is.accepted is.legal is.grants c.of_slots.ensures)
    c.is_some.result c.is_some.ensures.some c.is_some.ensures.none
