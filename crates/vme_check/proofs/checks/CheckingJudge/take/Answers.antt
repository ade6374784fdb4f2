use Rattle.std.proofs.Common.{◌∙◌, ◌++◌, Ok, ap, refl, sym}
use Rattle.vme_check.proofs.CheckPieces.{all_accepted, finds_legal, finds_refused, finds_stop}
use Rattle.vme_check.proofs.checks.CheckingJudge.take.Goals as goal

pub returns-in-Some-clause-takes : goal.returns-in-Some-clause-takes
returns-in-Some-clause-takes g c =
    λ task p v es old h. finds_refused p v es c.args.edges.now _ _ h c.args.more old (g.W.Write.contents c.args._out.now) _ _ (sym c.in-Some.is ∙ c.first_refused.ensures.found)

pub returns-in-Ok-true-clause-takes : goal.returns-in-Ok-true-clause-takes
returns-in-Ok-true-clause-takes g c = λ task p v es old h. all_accepted p v es _ _ _ h _ _ (sym c.in-None.is ∙ c.first_refused.ensures.found) (c.first_refused.ensures.state c.in-None.is) refl

pub returns-in-Ok-false-clause-takes : goal.returns-in-Ok-false-clause-takes
returns-in-Ok-false-clause-takes g c =
    λ task p v es old h.
    let run = all_accepted p v es c.args.edges.now _ _ h _ _ (sym c.in-None.is ∙ c.first_refused.ensures.found) (c.first_refused.ensures.state c.in-None.is) refl in
    finds_legal p v (es ++ _) _ old (g.W.Write.contents c.args._out.now) _ _ run (c.in-Ok-false.is ∙ ap (λ b. Ok b) c.in-Ok-false.field-0-test) c.laws.ensures.legal
    c.safety.ensures.safe c.laws.ensures.fits

pub returns-in-Err-clause-takes : goal.returns-in-Err-clause-takes
returns-in-Err-clause-takes g c =
    λ task p v es old h.
    let run = all_accepted p v es c.args.edges.now _ _ h _ _ (sym c.in-None.is ∙ c.first_refused.ensures.found) (c.first_refused.ensures.state c.in-None.is) refl in
    finds_stop p v (es ++ c.args.edges.now) c.args.more old (g.W.Write.contents c.args._out.now) _ _ run c.in-Err.fault c.in-Err.is
