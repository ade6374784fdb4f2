use Rattle.vme_summary.proofs.Standing.{known}
use Rattle.vme_summary.proofs.laws.every_tenure_had_a_wait.Goals as goal

pub returns : goal.returns
returns c = λ b es s none. (known s b es none).waits
