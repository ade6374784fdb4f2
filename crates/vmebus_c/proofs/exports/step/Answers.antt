use Rattle.std.proofs.Common.{◌∙◌, sym, ap}
use Rattle.std.specs.Prelude.{Option, Result}
use Rattle.vme_model.specs.declared.deliveries.Delivery.{Delivery}
use Rattle.vme_model.specs.declared.refusals.Refused.{Refused}
use Rattle.vme_model.specs.declared.signals.Edge.{Edge}
use Rattle.vmebus_c.specs.Stepped.{answered_or, delivery_of_edge}
use Rattle.vmebus_c.specs.Numbers.{answer_number, delivered_number}
use Rattle.vmebus_c.proofs.exports.step.Goals as goal

pub returns-in-Err-clause-answer : goal.returns-in-Err-clause-answer
returns-in-Err-clause-answer c version p h is =
    c.refusal_number.ensures.number
    ∙ ap (λ (x : Result (Option Delivery) Refused). answer_number x) (sym c.in-Err.is ∙ c.step.ensures.answer version p h is)
    ∙ ap (λ (o : Option Edge). answered_or c.args.none version p h o) (sym c.in-Some.is)

pub returns-in-Err-clause-delivered : goal.returns-in-Err-clause-delivered
returns-in-Err-clause-delivered c version p h is =
    ap (λ (x : Result (Option Delivery) Refused). delivered_number x) (sym c.in-Err.is ∙ c.step.ensures.answer version p h is)
    ∙ ap (λ (o : Option Edge). delivery_of_edge version p h o) (sym c.in-Some.is)
