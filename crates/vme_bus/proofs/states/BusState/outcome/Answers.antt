use Rattle.std.proofs.Common.{◌∙◌, sym, subst}
use Rattle.vme_model.specs.Verdict.{Judgement}
use Rattle.vme_model.specs.Failing.{tested_for}
use Rattle.vme_histories.proofs.JudgedParts.{exists_accepted}
use Rattle.vme_bus.proofs.states.BusState.outcome.Goals as goal

pub returns-in-Ok : goal.returns-in-Ok
returns-in-Ok g c = λ version p h is.
    let e = c.args.edge in
    let so = sym (c.judge.ensures version p h is) ∙ c.in-Ok.is in
    subst (λ (j : Judgement). g.A.Outcome.reports c.outcome_by_both.result (tested_for version p h e j)) (sym so)
    (c.outcome_by_both.ensures version p h is (exists_accepted version p h e so))

pub returns-in-Err : goal.returns-in-Err
returns-in-Err g c = λ version p h is.
    let e = c.args.edge in
    let so = sym (c.judge.ensures version p h is) ∙ c.in-Err.is in
    subst (λ (j : Judgement). g.A.Outcome.reports c.outcome_refused.result (tested_for version p h e j)) (sym so)
    (c.outcome_refused.ensures version p h is so)
