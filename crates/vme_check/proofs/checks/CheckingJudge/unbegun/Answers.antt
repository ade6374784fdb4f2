use Rattle.vme_check.proofs.CheckPieces.{finds_unbegun}
use Rattle.vme_check.proofs.checks.CheckingJudge.unbegun.Goals as goal

pub returns : goal.returns
returns c = λ p trace s f kept_so h. finds_unbegun p trace s f h
