use Rattle.std.proofs.Common.{subst}
use Rattle.vme_interrupter.specs.Local.{seen}
use Rattle.vme_wiring.proofs.PartGuards.{interrupter_noted, interrupter_guard}
use Rattle.vme_wiring.proofs.boards.Board.told_by_interrupter.Goals as goal

pub returns : goal.returns
returns g c = λ version p h r same asked own.
    let b = c.args.self.now in
    subst (λ k. g.A.Outcome.tells c.told.result k)
    (interrupter_guard version p h r b c.args.pins c.args.edge same asked own)
    (c.told.ensures version (seen p h) (interrupter_noted version p h r b c.args.pins c.args.edge same) own)
