use Rattle.std.proofs.Common.{◌≡◌, ◌∙◌, ap, false, is_ok, sym}
use Rattle.vme_model.specs.Verdict.{State, verdict}
use Rattle.vme_following.proofs.FollowedEdges.{on_next, on_stays}
use Rattle.vme_following.proofs.explains.ExplainingAtEdge.pass.Goals as goal

pub returns-clause-accepted : goal.returns-clause-accepted
returns-clause-accepted c = λ p v es is.
    c.is_ok.ensures.value ∙ c.step_marked.ensures.accepted
    ∙ ap (λ (s : State). is_ok (verdict s c.args.edge.now)) is.kept_so

pub returns-clause-passes : goal.returns-clause-passes
returns-clause-passes c = λ p v es is n.
    on_next p v es _ _ is c.args.edge.now c.args.n _ _ n c.step_marked.ensures.state
    c.step_marked.ensures.noted

pub returns-clause-stays : goal.returns-clause-stays
returns-clause-stays c = λ ends p v es is.
    let refused : c.is_ok.result ≡ false = (let e = ends in cc) in
    on_stays p v es _ _ _ _ c.step_marked.result (sym c.is_ok.ensures.value ∙ refused)
    c.step_marked.ensures.refused is
