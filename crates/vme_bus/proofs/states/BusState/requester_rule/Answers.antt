use Rattle.std.proofs.Common.{sym, subst}
use Rattle.vme_model.specs.declared.signals.Driver.TheVariants.{Slot}
use Rattle.vme_model.specs.declared.signals.Wire.TheVariants.{Bbsy}
use Rattle.vme_model.specs.Readings.{readings}
use Rattle.vme_model.specs.Rules.{guard}
use Rattle.vme_bus.proofs.states.BusState.requester_rule.Goals as goal

pub returns-in-Bbsy-false-clause-answer : goal.returns-in-Bbsy-false-clause-answer
returns-in-Bbsy-false-clause-answer g c version p h r is found v known some =
    let reads = readings p h (Slot c.args.slot) in
    subst (λ w. g.A.Outcome.reports c.giving_up.result (guard version reads w c.args.fall v).1) (sym c.in-Bbsy-false.is-0)
    (subst (λ f. g.A.Outcome.reports c.giving_up.result (guard version reads Bbsy f v).1) (sym c.in-Bbsy-false.is-1)
    (c.giving_up.ensures version p h r is found v some))
