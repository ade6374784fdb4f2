use Rattle.std.proofs.Common.{◌∙◌, ap, subst}
use Rattle.vme_model.specs.declared.signals.Driver.TheVariants.{Slot}
use Rattle.vme_model.specs.History.{shown}
use Rattle.vme_model.specs.Readings.{readings}
use Rattle.vme_model.specs.Rules.{passes}
use Rattle.vme_bus.specs.Asks.{asks_at}
use Rattle.vme_bus.proofs.Guards.{passed_by}
use Rattle.vme_bus.proofs.states.BusState.passing.Goals as goal

pub returns : goal.returns
returns g c version p h is =
    let reads = readings p h (Slot c.args.slot) in
    subst (λ k. g.A.Outcome.reports c.passes.result k)
    (ap (λ b. passes (λ level. b) c.shown.result) (c.asks.ensures version p h is)
    ∙ ap (λ v. passes (λ level. asks_at reads (shown p h)) v) (c.shown.ensures ∙ is.shown)
    ∙ passed_by reads (shown p h))
    c.passes.ensures
