use Rattle.std.proofs.Common.{subst}
use Rattle.vme_wiring.proofs.PartGuards.{requester_noted, requester_guard}
use Rattle.vme_wiring.proofs.boards.Board.told_by_requester.Goals as goal

pub returns-in-Some : goal.returns-in-Some
returns-in-Some g c = λ version p h r same asked own.
    let b = c.args.self.now in
    let q = c.in-Some.requester in
    subst (λ k. g.A.Outcome.tells c.told.result k)
    (requester_guard version p h r b c.args.pins c.args.edge same q c.is_address_free.result c.in-Some.is c.is_address_free.ensures asked own)
    (c.told.ensures h (requester_noted version p h r b c.args.pins c.args.edge same q c.in-Some.is) own)
