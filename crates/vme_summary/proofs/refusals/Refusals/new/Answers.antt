use Rattle.std.proofs.Common.{refl}
use Rattle.vme_summary.proofs.OneMore.{nothing_refused}
use Rattle.vme_summary.proofs.refusals.Refusals.new.Goals as goal

pub returns : goal.returns
returns c = nothing_refused _ refl refl refl refl refl
