use Rattle.vme_model.specs.declared.signals.Wire.TheVariants.{Bbsy}
use Rattle.vme_bus.proofs.Lines.{line_is}
use Rattle.vme_bus.proofs.states.BusState.bbsy.Goals as goal

pub returns : goal.returns
returns c version p h is = line_is version p h Bbsy c.args.self.now.bbsy is.accepted is.legal is.bbsy c.is_some.result c.is_some.ensures.some c.is_some.ensures.none
