use Rattle.vme_races.proofs.WrittenRaces.{unbegun}
use Rattle.vme_races.proofs.judge.ReportingJudge.unbegun.Goals as goal

pub returns : goal.returns
returns c = unbegun
