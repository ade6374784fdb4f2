use Rattle.std.proofs.Common.{◌∙◌}
use Rattle.std.proofs.lemmas.Result.{err_from_is_err_and}
use Rattle.std.proofs.KnownBytes.{Appends-nil}
use Rattle.vme_engines.specs.Streams.{streams}
use Rattle.vme_engines.proofs.ShownTraces.{shows_all, shows_unbegun}
use Rattle.vme_engines.proofs.shows.show_trace.Goals as goal

pub returns-in_err-version : goal.returns-in_err-version
returns-in_err-version g c =
    let e = err_from_is_err_and c.from_residual.result c.from_residual.ensures.1 in
    rw (e.1, e.2) (shows_unbegun c.args.plan (streams (g.R.Read.remaining c.args.trace.now) (g.R.Read.remaining c.begin.new.trace) (g.W.Write.contents c.args.out.now) (g.W.Write.contents c.args.out.now)) c.args.stretch c.in_err-version.field-0.0 c.requires.stretch (Appends-nil _) c.in_err-version.ensures.unbegun)

pub read_on-requires-clause-begun : goal.read_on-requires-clause-begun
read_on-requires-clause-begun g c = c.new-showing.ensures.fresh.none.judged

pub returns : goal.returns
returns g c =
    let ran = c.read_on.ensures _ _ c.in_ok-version.ensures.begun in
    let is = c.new-showing.ensures.bus ∙ c.new.ensures in
    (ran.0, ran.1, rw (← c.new-showing.ensures.stretch) (shows_all c.args.plan _ ran.0 _ c.new-showing.result c.read_on.result is c.new-showing.ensures.fresh ran.2))
