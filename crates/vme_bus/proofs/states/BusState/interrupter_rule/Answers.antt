use Rattle.std.proofs.Common.{◌∙◌, sym, ap, subst}
use Rattle.vme_model.specs.declared.signals.Driver.TheVariants.{Slot}
use Rattle.vme_model.specs.declared.signals.Wire.TheVariants.{DataStrobe, Dtack}
use Rattle.vme_model.specs.History.{line, shown}
use Rattle.vme_model.specs.Readings.{readings}
use Rattle.vme_model.specs.Rules.{guard, dtack_falls, answer_guard}
use Rattle.vme_bus.proofs.states.BusState.interrupter_rule.Goals as goal

pub returns-in-Dtack-true-clause-answer : goal.returns-in-Dtack-true-clause-answer
returns-in-Dtack-true-clause-answer g c version p h r is found v known =
    let reads = readings p h (Slot c.args.slot) in
    let answers = answer_guard reads (shown p h) in
    subst (λ w. g.A.Outcome.reports c.dtack_falls.result (guard version reads w c.args.fall v).1) (sym c.in-Dtack-true.is-0)
    (subst (λ f. g.A.Outcome.reports c.dtack_falls.result (guard version reads Dtack f v).1) (sym c.in-Dtack-true.is-1)
    (subst (λ k. g.A.Outcome.reports c.dtack_falls.result k)
    (ap (λ x. dtack_falls x c.address_strobe-in-Dtack-true.result answers) (c.data_strobe-in-Dtack-true.ensures version p h is)
    ∙ ap (λ x. dtack_falls (line p h DataStrobe) x answers) (c.address_strobe-in-Dtack-true.ensures version p h is))
    (c.dtack_falls.ensures answers (c.answering-answering.ensures version p h r is found))))
