use Rattle.std.proofs.Common.{◌∙◌, ap, subst}
use Rattle.vme_model.specs.declared.sets.Levels.{Levels}
use Rattle.vme_model.specs.Sets.{has_level}
use Rattle.vme_model.specs.Rules.{shows}
use Rattle.vme_bus.proofs.Guards.{shown_by}
use Rattle.vme_bus.proofs.states.BusState.showing.Goals as goal

pub returns : goal.returns
returns g c version p h r is found formed =
    subst (λ k. g.A.Outcome.reports c.shows.result k)
    (ap (λ (x : Levels). shows (has_level x) (has_level c.interrupt_asked.result) c.args.value) (c.handler.ensures version p h r is found)
    ∙ shown_by p h c.args.slot r c.args.value c.interrupt_asked.result found formed (c.interrupt_asked.ensures version p h is))
    c.shows.ensures
