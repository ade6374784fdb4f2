use Rattle.std.proofs.Common.{arith}
use Rattle.std.proofs.lemmas.Grind.{common_steps}
use Rattle.vme_explain.proofs.moves.Moves.note.Goals as goal

pub returns-else-is_grant : goal.returns-else-is_grant
returns-else-is_grant c = λ k is. record {
  places = grind (arith, common_steps);
  wires = λ d w has. grind (arith, common_steps, is.wires d w has);
  grant = grind (arith, common_steps);
}
