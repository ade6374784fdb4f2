use Rattle.std.proofs.Common.{[]}
use Rattle.std.proofs.KnownBytes.{Appends-nil}
use Rattle.vme_reading.proofs.reporting.ReportingJudge.begin.Goals as goal

pub returns-clause-stands : goal.returns-clause-stands
returns-clause-stands g c = λ p v old is. ([], c.begin.ensures.knows p v is, Appends-nil old)
