use Rattle.vme_model.specs.declared.signals.Driver.TheVariants.{Slot}
use Rattle.vme_backplane.proofs.OfferChoice.{none_offered}
use Rattle.vme_bus.proofs.buses.Bus.movers.Goals as goal

pub returns : goal.returns
returns c = λ s waits. none_offered c.args.self.now (Slot s) (c.movers_but_full.ensures s waits)
