use Rattle.std.proofs.Common.{refl}
use Rattle.vme_goals.specs.Events.{all_events}
use Rattle.vme_summary.proofs.Situations.{nothing_met}
use Rattle.vme_summary.proofs.met.Met.new.Goals as goal

pub returns : goal.returns
unfolding all_events
returns c = nothing_met _ refl refl
