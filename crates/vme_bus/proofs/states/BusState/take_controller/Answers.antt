use Rattle.std.proofs.Common.{refl}
use Rattle.vme_model.proofs.Wires.{of_no_other}
use Rattle.vme_model.specs.declared.signals.Part.TheVariants as parts
use Rattle.vme_bus.proofs.Parts.{no_delivery}
use Rattle.vme_bus.proofs.states.BusState.take_controller.Goals as goal

pub returns-clause-delivery : goal.returns-clause-delivery
returns-clause-delivery c version p h is = no_delivery p h c.args.edge (of_no_other parts.Controller parts.Interrupter c.args.edge.wire c.requires refl)
