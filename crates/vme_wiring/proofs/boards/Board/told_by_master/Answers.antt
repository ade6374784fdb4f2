use Rattle.std.proofs.Common.{subst}
use Rattle.vme_wiring.proofs.PartGuards.{master_noted, master_guard}
use Rattle.vme_wiring.proofs.boards.Board.told_by_master.Goals as goal

pub returns-in-Some : goal.returns-in-Some
returns-in-Some g c = λ version p h r same asked own.
    let b = c.args.self.now in
    let m = c.in-Some.master in
    subst (λ k. g.A.Outcome.tells c.told.result k)
    (master_guard version p h r b c.args.pins c.args.edge same m c.is_low.result c.in-Some.is c.is_low.ensures asked own)
    (c.told.ensures version h (master_noted version p h r b c.args.pins c.args.edge same m c.in-Some.is) own)
