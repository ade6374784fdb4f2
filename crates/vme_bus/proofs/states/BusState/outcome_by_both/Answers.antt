use Rattle.vme_bus.proofs.states.BusState.outcome_by_both.Goals as goal

pub returns : goal.returns
returns g c = λ version p h is exists.
    c.and.ensures _ _ (c.outcome_by_rule-rules.ensures version p h is exists) (c.settling-number.ensures.answer version p h is)
