use Rattle.std.specs.Prelude.{None}
use Rattle.vme_reading.specs.Streams.{streams, ReadNothing, WroteNothing}
use Rattle.vme_reading.specs.Readings.{ReadsInput}
use Rattle.vme_check.specs.Checking.{Finds}
use Rattle.vme_reading.proofs.ReadTraces.{lent_reading}
use Rattle.vme_check.proofs.checks.finding_of.Goals as goal

pub returns : goal.returns
returns g c =
    let s = streams (g.R.Read.remaining c.args.trace.now) (g.R.Read.remaining c.read.new.trace) None None in
    lent_reading c.args.scenario.now (ReadNothing s) (WroteNothing s) (λ p. ReadsInput (Finds p) s) c.read.result c.read.ensures
