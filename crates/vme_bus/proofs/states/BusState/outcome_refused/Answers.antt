use Rattle.std.proofs.Common.{◌∙◌, sym, ap, subst}
use Rattle.std.specs.Prelude.{Err}
use Rattle.vme_model.specs.declared.refusals.Refused.{Refused}
use Rattle.vme_model.specs.Failing.{tested_for}
use Rattle.vme_histories.proofs.JudgedParts.{exists_ruled, exists_settled, never_full}
use Rattle.vme_bus.proofs.states.BusState.outcome_refused.Goals as goal

pub returns-in-NoSuchDriver : goal.returns-in-NoSuchDriver
returns-in-NoSuchDriver g c = λ version p h is refused.
    subst (λ (r : Refused). g.A.Outcome.reports c.asks.result (tested_for version p h c.args.edge (Err r))) (sym c.in-NoSuchDriver.is) c.asks.ensures

pub returns-in-AlreadyThere : goal.returns-in-AlreadyThere
returns-in-AlreadyThere g c = λ version p h is refused.
    subst (λ (r : Refused). g.A.Outcome.reports c.asks-in-AlreadyThere.result (tested_for version p h c.args.edge (Err r))) (sym c.in-AlreadyThere.is) c.asks-in-AlreadyThere.ensures

pub returns-in-Rule : goal.returns-in-Rule
returns-in-Rule g c = λ version p h is refused.
    subst (λ (r : Refused). g.A.Outcome.reports c.outcome_by_rule.result (tested_for version p h c.args.edge (Err r))) (sym c.in-Rule.is)
    (c.outcome_by_rule.ensures version p h is (exists_ruled version p h c.args.edge c.in-Rule.field-0 (refused ∙ ap (λ (r : Refused). Err r) c.in-Rule.is)))

pub returns-in-NotSettled : goal.returns-in-NotSettled
returns-in-NotSettled g c = λ version p h is refused.
    subst (λ (r : Refused). g.A.Outcome.reports c.outcome_by_both.result (tested_for version p h c.args.edge (Err r))) (sym c.in-NotSettled.is)
    (c.outcome_by_both.ensures version p h is (exists_settled version p h c.args.edge c.in-NotSettled.field-0 (refused ∙ ap (λ (r : Refused). Err r) c.in-NotSettled.is)))

pub returns-in-TraceFull : goal.returns-in-TraceFull
returns-in-TraceFull g c = λ version p h is refused.
    absurd (never_full version p h c.args.edge (refused ∙ ap (λ (r : Refused). Err r) c.in-TraceFull.is))
