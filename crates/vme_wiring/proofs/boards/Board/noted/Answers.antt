use Rattle.std.proofs.Common.{◌≡◌, ap, sym, subst}
use Rattle.vme_interrupter.specs.Local.{seen}
use Rattle.vme_wiring.specs.declared.boards.Board.{Board}
use Rattle.vme_wiring.proofs.boards.Board.noted.Goals as goal

pub returns : goal.returns
returns c version p h r same shown =
    let row = ap (λ (b : Board). b.row) same in
    let interrupter = c.note.ensures r.slot r.interrupter (seen p h) (ap (λ (b : Board). b.interrupter) same) in
    let requester = c.requester_after.ensures r.slot r.requester version h (ap (λ (b : Board). b.requester) same) in
    let master = c.master_after.ensures r.slot r.requester r.handler h (ap (λ (b : Board). b.master) same) in
    cc (row, interrupter, requester, master)
