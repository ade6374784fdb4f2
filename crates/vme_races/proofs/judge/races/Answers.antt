use Rattle.std.proofs.Common.{◌≡◌}
use Rattle.vme_trace.specs.declared.Fault.TheVariants.{Memory}
use Rattle.vme_reading.specs.Readings.{ReadsInput}
use Rattle.vme_reading.specs.Reporting.{ReportsEach}
use Rattle.vme_reading.specs.Streams.{streams}
use Rattle.vme_reading.proofs.ReportedEdges.{lent_as}
use Rattle.vme_races.specs.Outcomes.{ReportsInput}
use Rattle.vme_races.proofs.WrittenRaces.{Lines, Text, reported}
use Rattle.vme_races.proofs.judge.races.Goals as goal

pub returns : goal.returns
returns g c =
    let s = streams (g.R.Read.remaining c.args.trace.now) (g.R.Read.remaining c.at_each.new.trace)
    (g.W.Write.contents c.args.out.now) (g.W.Write.contents c.at_each.new.out) in
    lent_as c.args.scenario.now _ (λ p. ReadsInput (ReportsEach Lines Text (λ f. f ≡ Memory) p) s) (ReportsInput s)
    (λ p answer h. (h.0, h.1, reported p h.0 s answer h.2)) c.at_each.result c.at_each.ensures
