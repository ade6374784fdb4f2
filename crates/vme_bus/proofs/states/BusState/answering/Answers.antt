use Rattle.std.proofs.Common.{◌∙◌, ap, subst}
use Rattle.vme_model.specs.declared.signals.Driver.TheVariants.{Slot}
use Rattle.vme_model.specs.declared.signals.Wire.TheVariants.{IackOut}
use Rattle.vme_model.specs.History.{drive, shown}
use Rattle.vme_model.specs.Readings.{readings, iack_in}
use Rattle.vme_model.specs.Rules.{answers}
use Rattle.vme_histories.specs.Shown.{is_access_to}
use Rattle.vme_histories.proofs.AllowedBoards.{stands}
use Rattle.vme_bus.specs.Asks.{asks_at}
use Rattle.vme_bus.specs.Records.{cycle_in}
use Rattle.vme_bus.proofs.Guards.{answered_by}
use Rattle.vme_bus.proofs.states.BusState.answering.Goals as goal

pub returns : goal.returns
returns g c version p h r is found =
    let s = c.args.slot in
    let reads = readings p h (Slot s) in
    let b = c.args.self.now in
    subst (λ k. g.A.Outcome.reports c.answers.result k)
    (ap (λ v. answers c.iack_in-iack_in.result c.has-iackout.result (λ level. c.asks-is_pending.result) (λ t. c.is_accessed-is_accessed.result) v) c.shown.ensures
    ∙ ap (λ x. answers x c.has-iackout.result (λ level. c.asks-is_pending.result) (λ t. c.is_accessed-is_accessed.result) (cycle_in b.shown)) (c.iack_in-iack_in.ensures version p h is)
    ∙ ap (λ x. answers (iack_in p h (Slot s)) x (λ level. c.asks-is_pending.result) (λ t. c.is_accessed-is_accessed.result) (cycle_in b.shown)) (c.has-iackout.ensures ∙ is.acknowledges s c.requires)
    ∙ ap (λ x. answers (iack_in p h (Slot s)) (drive h (Slot s) IackOut) (λ level. x) (λ t. c.is_accessed-is_accessed.result) (cycle_in b.shown)) (c.asks-is_pending.ensures version p h is)
    ∙ ap (λ x. answers (iack_in p h (Slot s)) (drive h (Slot s) IackOut) (λ level. asks_at reads (shown p h)) (λ t. x) (cycle_in b.shown)) c.is_accessed-is_accessed.ensures
    ∙ ap (λ v. answers (iack_in p h (Slot s)) (drive h (Slot s) IackOut) (λ level. asks_at reads (shown p h)) (λ t. is_access_to s v) v) is.shown
    ∙ answered_by p h s r (shown p h) found (stands p s r is.accepted found).slot)
    c.answers.ensures
