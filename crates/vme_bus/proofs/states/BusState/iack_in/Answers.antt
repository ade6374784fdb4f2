use Rattle.std.proofs.Common.{◌∙◌, ap}
use Rattle.std.specs.Prelude.{◌&&◌}
use Rattle.std.specs.Prelude.{is_some}
use Rattle.vme_bus.specs.Records.{interrupter_in, seat_of_record}
use Rattle.vme_bus.proofs.Inputs.{acknowledge_seen}
use Rattle.vme_bus.proofs.states.BusState.iack_in.Goals as goal

pub returns : goal.returns
returns c version p h r is found same =
    ap (λ b. b && c.has.result) c.is_some.ensures
    ∙ ap (λ b. is_some (interrupter_in c.args.seat.now.interrupter) && b) c.has.ensures
    ∙ acknowledge_seen version p h c.args.self.now c.args.slot r (seat_of_record c.args.seat.now) is found same
