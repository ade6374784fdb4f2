use Rattle.vme_summary.proofs.Standing.{told}
use Rattle.vme_summary.proofs.laws.boards_are_told_as_they_stand.Goals as goal

pub returns : goal.returns
returns c = record {
  asks = λ b es s none. (told s b es none).asks;
  holds = λ b es s none. (told s b es none).holds;
}
