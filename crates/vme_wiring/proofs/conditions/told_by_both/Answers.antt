use Rattle.vme_wiring.proofs.conditions.told_by_both.Goals as goal

pub returns : goal.returns
returns g c = λ version p h is exists.
    c.and.ensures _ _ (c.told_by_rule-rules.ensures version p h is exists) (c.told_by_settling-settles.ensures version p h is)
