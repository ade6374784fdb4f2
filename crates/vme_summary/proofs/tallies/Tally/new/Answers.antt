use Rattle.std.proofs.Common.{refl}
use Rattle.vme_summary.proofs.OneMore.{no_edge}
use Rattle.vme_summary.proofs.tallies.Tally.new.Goals as goal

pub returns : goal.returns
returns c = no_edge _ refl refl refl c.new.ensures c.new-2.ensures (rw c.idle.ensures refl)
