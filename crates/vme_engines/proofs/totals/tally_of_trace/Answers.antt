use Rattle.std.proofs.Common.{None, refl, ◌∙◌}
use Rattle.std.proofs.lemmas.Result.{err_from_is_err_and}
use Rattle.vme_engines.specs.Streams.{streams}
use Rattle.vme_engines.specs.Summing.{IsWaiting}
use Rattle.vme_engines.proofs.Waits.{waits_unbegun}
use Rattle.vme_engines.proofs.TalliedTraces.{tallies_all}
use Rattle.vme_engines.proofs.totals.tally_of_trace.Goals as goal

pub returns-in_err-version : goal.returns-in_err-version
returns-in_err-version g c =
    let e = err_from_is_err_and c.from_residual.result c.from_residual.ensures.1 in
    rw (e.1, e.2) (waits_unbegun IsWaiting tt (streams (g.R.Read.remaining c.args.trace.now) (g.R.Read.remaining c.begin.new.trace) None None) c.in_err-version.field-0.0 c.in_err-version.ensures.unbegun)

pub returns : goal.returns
returns g c =
    let ran = c.read_on.ensures _ _ c.in_ok-version.ensures.begun in (
      ran.0,
      ran.1,
      tallies_all c.args.plan _ ran.0 _ _ _ ran.2.2.summing ran.2.0 ran.2.1 c.read_on.result
          (record { empty = refl; bus = c.new-following.ensures.bus ∙ c.new.ensures; judged = c.new-following.ensures.judged; marks = c.new-following.ensures.marks c.args.plan; tally = c.new-tally.ensures })
          ran.2.3 ran.2.4,
    )
