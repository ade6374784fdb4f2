use Rattle.vme_reading.specs.Outcomes.{ReplaysInput}
use Rattle.vme_reading.specs.Readings.{ReadsInput}
use Rattle.vme_reading.specs.Reporting.{ReportsEach}
use Rattle.vme_reading.specs.Streams.{streams}
use Rattle.vme_reading.proofs.ReportedEdges.{lent_as}
use Rattle.vme_replay.specs.Replayed.{AreLines, IsText}
use Rattle.vme_replay.proofs.LeftOfTrace.{reported}
use Rattle.vme_replay.proofs.replays.replay.Goals as goal

pub returns : goal.returns
returns g c =
    let form = c.args.form in
    let s = streams (g.R.Read.remaining c.args.trace.now) (g.R.Read.remaining c.at_each.new.trace)
    (g.W.Write.contents c.args.out.now) (g.W.Write.contents c.at_each.new.out) in
    lent_as c.args.scenario.now _ (λ p. ReadsInput (ReportsEach (AreLines form) (IsText form) (λ _. ⊥) p) s) (ReplaysInput form s)
    (λ p answer h. (h.0, h.1, reported form p h.0 s answer h.2)) c.at_each.result c.at_each.ensures
