use Rattle.std.proofs.Common.{◌∙◌, sym}
use Rattle.vme_wiring.proofs.NoOffers.{reads_bus, master_none, row_here}
use Rattle.vme_wiring.proofs.wirings.Wiring.is_master_waiting.Goals as goal

pub returns-clause-waits : goal.returns-clause-waits
returns-clause-waits c version p h s is here = c.is_master_quiet.ensures ∙ reads_bus version p h c.args.self.now s c.args.board.now is here

pub returns-clause-none : goal.returns-clause-none
returns-clause-none c version p h s is here waits =
    let w = c.args.self.now in
    let b = c.args.board.now in
    master_none version p h s b.row (row_here version p h w s b is here) (sym (c.is_master_quiet.ensures ∙ reads_bus version p h w s b is here) ∙ waits)
