use Rattle.vme_summary.proofs.Standing.{known}
use Rattle.vme_summary.proofs.laws.boards_are_reported_as_they_stand.Goals as goal

pub returns : goal.returns
returns c = record {
  asks = λ b es s none. (known s b es none).asks;
  holds = λ b es s none. (known s b es none).holds;
}
