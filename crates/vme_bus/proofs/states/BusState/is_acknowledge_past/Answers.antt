use Rattle.std.proofs.Common.{◌∙◌, ap}
use Rattle.vme_bus.specs.Sets.{has}
use Rattle.vme_bus.proofs.Inputs.{acknowledge_end_reads}
use Rattle.vme_bus.proofs.states.BusState.is_acknowledge_past.Goals as goal

pub returns : goal.returns
returns c version p h is =
    c.has.ensures
    ∙ ap (λ s. has c.args.self.now.acknowledges s) is.layout.acknowledge_end
    ∙ acknowledge_end_reads version p h c.args.self.now is
