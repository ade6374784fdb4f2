use Rattle.std.proofs.Common.{◌∙◌, ap}
use Rattle.std.specs.Prelude.{◌&&◌}
use Rattle.std.specs.Prelude.{is_some}
use Rattle.vme_bus.specs.Records.{requester_in, seat_of_record}
use Rattle.vme_bus.proofs.Inputs.{grant_seen}
use Rattle.vme_bus.proofs.states.BusState.grant_in.Goals as goal

pub returns : goal.returns
returns c version p h r is found same =
    ap (λ b. b && c.has.result) c.is_some.ensures
    ∙ ap (λ b. is_some (requester_in c.args.seat.now.requester) && b) c.has.ensures
    ∙ grant_seen version p h c.args.self.now c.args.slot r (seat_of_record c.args.seat.now) is found same
