use Rattle.std.proofs.Common.{refl}
use Rattle.vme_explain.proofs.Fresh.{nothing_moved}
use Rattle.vme_explain.proofs.moves.Moves.new.Goals as goal

pub returns : goal.returns
returns c = nothing_moved _ refl refl
