use Rattle.std.proofs.Common.{refl, ◌∙◌}
use Rattle.std.proofs.lemmas.Result.{err_from_is_err_and}
use Rattle.std.proofs.KnownBytes.{Keeps-refl}
use Rattle.vme_engines.specs.Streams.{streams}
use Rattle.vme_engines.proofs.Sums.{sums_all, sums_unbegun}
use Rattle.vme_engines.proofs.summaries.summary_of_trace.Goals as goal

pub returns-in_err-version : goal.returns-in_err-version
returns-in_err-version g c =
    let e = err_from_is_err_and c.from_residual.result c.from_residual.ensures.1 in
    rw (e.1, e.2) (sums_unbegun c.args.plan (streams (g.R.Read.remaining c.args.trace.now) (g.R.Read.remaining c.begin.new.trace) (g.W.Write.contents c.args.out.now) (g.W.Write.contents c.args.out.now)) c.in_err-version.field-0.0 (Keeps-refl _) c.in_err-version.ensures.unbegun)

pub returns : goal.returns
returns g c =
    let ran = c.read_on.ensures _ _ c.in_ok-version.ensures.begun in (
      ran.0,
      ran.1,
      sums_all c.args.plan _ ran.0 _ _ c.read_on.result
          (record { empty = refl; bus = c.new-following.ensures.bus ∙ c.new.ensures; judged = c.new-following.ensures.judged; marks = c.new-following.ensures.marks c.args.plan; tally = c.new-tally.ensures })
          ran.2,
    )
