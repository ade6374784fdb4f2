use Rattle.vme_reading.proofs.ReportedEdges.{reports_unbegun}
use Rattle.vme_reading.proofs.reporting.ReportingJudge.unbegun.Goals as goal

pub returns : goal.returns
returns g c = λ p trace s f nothing h.
    reports_unbegun g.S.AtEach.lines g.S.AtEach.text g.S.AtEach.fails p trace s f nothing h
