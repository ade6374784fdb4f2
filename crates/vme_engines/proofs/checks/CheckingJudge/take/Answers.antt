use Rattle.std.proofs.Common.{◌∙◌, ◌++◌, Ok, ap, refl, sym}
use Rattle.std.proofs.lemmas.Result.{err_from_is_err_and}
use Rattle.std.proofs.KnownBytes.{Keeps-refl}
use Rattle.vme_engines.proofs.CheckPieces.{all_accepted, checks_legal, checks_legal_cut, checks_refused, checks_refused_cut, checks_stop}
use Rattle.vme_engines.proofs.checks.CheckingJudge.take.Goals as goal

pub returns-in_err-report-in-Some-clause-takes : goal.returns-in_err-report-in-Some-clause-takes
returns-in_err-report-in-Some-clause-takes g c =
    λ task p v es old h.
    let e = err_from_is_err_and c.from_residual.result c.from_residual.ensures.1 in
    rw (e.1, e.2) (checks_refused_cut p v es c.args.edges.now c.args.more old _ _ h.0 _ _ h.1 _ _ c.in_err-report-in-Some.field-0.0 c.in_err-report-in-Some.ensures.fault (sym c.in-Some.is ∙ c.first_refused.ensures.found) c.in_err-report-in-Some.ensures.front)

pub returns-in-Some-clause-takes : goal.returns-in-Some-clause-takes
returns-in-Some-clause-takes g c =
    λ task p v es old h.
    checks_refused p v es c.args.edges.now c.args.more old _ _ h.0 _ _ h.1 _ _ _ (sym c.in-Some.is ∙ c.first_refused.ensures.found) c.in_ok-report-in-Some.ensures.status c.in_ok-report-in-Some.ensures.ok

pub returns-in-Ok-true-clause-takes : goal.returns-in-Ok-true-clause-takes
returns-in-Ok-true-clause-takes g c = λ task p v es old h. (h.0, all_accepted p v es c.args.edges.now c.args.more old _ (g.W.Write.contents c.args.out.now) h.0 _ _ h.1 _ _ (sym c.in-None.is ∙ c.first_refused.ensures.found) (c.first_refused.ensures.state c.in-None.is) refl)

pub returns-in_err-report-in-Ok-false-clause-takes : goal.returns-in_err-report-in-Ok-false-clause-takes
returns-in_err-report-in-Ok-false-clause-takes g c =
    λ task p v es old h.
    let e = err_from_is_err_and c.from_residual-in_err-report-in-Ok-false.result c.from_residual-in_err-report-in-Ok-false.ensures.1 in
    let run = all_accepted p v es c.args.edges.now c.args.more old _ (g.W.Write.contents c.args.out.now) h.0 _ _ h.1 _ _ (sym c.in-None.is ∙ c.first_refused.ensures.found) (c.first_refused.ensures.state c.in-None.is) refl in
    rw (e.1, e.2)
    (checks_legal_cut p v (es ++ c.args.edges.now) c.args.more old _ _ h.0 _ _ run c.in_err-report-in-Ok-false.field-0.0 c.in_err-report-in-Ok-false.ensures.fault (c.in-Ok-false.is ∙ ap (λ b. Ok b) c.in-Ok-false.field-0-test) c.laws.ensures.legal c.safety.ensures.safe c.laws.ensures.fits
    c.in_err-report-in-Ok-false.ensures.front)

pub returns-in_ok-report-in-Ok-false-clause-takes : goal.returns-in_ok-report-in-Ok-false-clause-takes
returns-in_ok-report-in-Ok-false-clause-takes g c =
    λ task p v es old h.
    let run = all_accepted p v es c.args.edges.now c.args.more old _ (g.W.Write.contents c.args.out.now) h.0 _ _ h.1 _ _ (sym c.in-None.is ∙ c.first_refused.ensures.found) (c.first_refused.ensures.state c.in-None.is) refl in
    checks_legal p v (es ++ c.args.edges.now) c.args.more old _ _ h.0 _ _ run _ (c.in-Ok-false.is ∙ ap (λ b. Ok b) c.in-Ok-false.field-0-test) c.laws.ensures.legal c.safety.ensures.safe c.laws.ensures.fits c.in_ok-report-in-Ok-false.ensures.status c.in_ok-report-in-Ok-false.ensures.ok

pub returns-in-Err-clause-takes : goal.returns-in-Err-clause-takes
returns-in-Err-clause-takes g c =
    λ task p v es old h.
    let run = all_accepted p v es c.args.edges.now c.args.more old _ (g.W.Write.contents c.args.out.now) h.0 _ _ h.1 _ _ (sym c.in-None.is ∙ c.first_refused.ensures.found) (c.first_refused.ensures.state c.in-None.is) refl in
    checks_stop p v (es ++ c.args.edges.now) c.args.more old _ _ h.0 _ _ run c.in-Err.fault c.in-Err.is (Keeps-refl _)
