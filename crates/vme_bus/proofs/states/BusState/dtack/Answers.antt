use Rattle.vme_model.specs.declared.signals.Wire.TheVariants.{Dtack}
use Rattle.vme_bus.proofs.Lines.{line_is}
use Rattle.vme_bus.proofs.states.BusState.dtack.Goals as goal

pub returns : goal.returns
returns c version p h is = line_is version p h Dtack c.args.self.now.dtack is.accepted is.legal is.dtack c.is_some.result c.is_some.ensures.some c.is_some.ensures.none
