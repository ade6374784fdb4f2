use Rattle.vme_model.specs.declared.signals.Wire.TheVariants.{DataStrobe}
use Rattle.vme_bus.proofs.Lines.{line_is}
use Rattle.vme_bus.proofs.states.BusState.data_strobe.Goals as goal

pub returns : goal.returns
returns c version p h is = line_is version p h DataStrobe c.args.self.now.data_strobe is.accepted is.legal is.data_strobe c.is_some.result c.is_some.ensures.some c.is_some.ensures.none
