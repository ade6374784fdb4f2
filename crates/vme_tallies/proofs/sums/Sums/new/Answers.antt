use Rattle.std.proofs.Common.{refl}
use Rattle.vme_tallies.proofs.AddedTraces.{no_trace}
use Rattle.vme_tallies.proofs.sums.Sums.new.Goals as goal

pub returns : goal.returns
returns c = no_trace _ refl refl refl refl c.new.ensures refl (rw c.idle.ensures refl)
