use Rattle.vme_model.specs.declared.signals.Wire.TheVariants.{AddressStrobe}
use Rattle.vme_bus.proofs.Lines.{line_is}
use Rattle.vme_bus.proofs.states.BusState.address_strobe.Goals as goal

pub returns : goal.returns
returns c version p h is = line_is version p h AddressStrobe c.args.self.now.address_strobe is.accepted is.legal is.address_strobe c.is_some.result c.is_some.ensures.some c.is_some.ensures.none
