use Rattle.vme_engines.proofs.CheckPieces.{checks_unbegun}
use Rattle.vme_engines.proofs.checks.CheckingJudge.unbegun.Goals as goal

pub returns : goal.returns
returns c = checks_unbegun
