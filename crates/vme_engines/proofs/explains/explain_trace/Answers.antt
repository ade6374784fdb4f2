use Rattle.std.proofs.Common.{◌≡◌, ◌∙◌}
use Rattle.std.proofs.lemmas.Result.{err_from_is_err_and}
use Rattle.std.proofs.KnownBytes.{Keeps-refl}
use Rattle.vme_engines.specs.declared.explains.Explaining.{Explaining}
use Rattle.vme_engines.specs.Streams.{streams}
use Rattle.vme_engines.proofs.ToldTraces.{explains_all, explains_unbegun}
use Rattle.vme_engines.proofs.explains.explain_trace.Goals as goal

pub returns-in_err-version : goal.returns-in_err-version
returns-in_err-version g c =
    let e = err_from_is_err_and c.from_residual.result c.from_residual.ensures.1 in
    rw (e.1, e.2) (explains_unbegun c.args.plan (streams (g.R.Read.remaining c.args.trace.now) (g.R.Read.remaining c.begin.new.trace) (g.W.Write.contents c.args.out.now) (g.W.Write.contents c.args.out.now)) c.args.edge c.in_err-version.field-0.0 (Keeps-refl _) c.in_err-version.ensures.unbegun)

pub returns : goal.returns
returns g c =
    let ran = c.read_on.ensures _ _ c.in_ok-version.ensures.begun in (
      ran.0,
      ran.1,
      explains_all (λ (s : Explaining). s.following) (λ (s : Explaining). s.edge ≡ c.args.edge) c.args.plan _ ran.0 _ c.args.edge c.new-following.result c.read_on.result (c.new-following.ensures.bus ∙ c.new.ensures) c.new-following.ensures.judged
          c.new-following.ensures.marks ran.2,
    )
