use Rattle.std.proofs.Common.{refl}
use Rattle.vme_goals.specs.Events.{all_events}
use Rattle.vme_summary.proofs.AddedTraces.{no_trace}
use Rattle.vme_summary.proofs.sums.Sums.new.Goals as goal

pub returns : goal.returns
unfolding all_events
returns c = no_trace _ refl refl refl refl c.new.ensures refl (rw c.idle.ensures refl)
