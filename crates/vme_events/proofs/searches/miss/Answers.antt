use Rattle.std.proofs.Common.{◌∙◌, ap, List, find}
use Rattle.std.specs.List.{flat_map}
use Rattle.vme_model.specs.declared.signals.Driver.{Driver}
use Rattle.vme_model.specs.Offers.{wires}
use Rattle.vme_model.specs.Open.{moves}
use Rattle.vme_model.specs.Plan.{drivers}
use Rattle.vme_events.specs.Misses.{is_missed}
use Rattle.vme_events.proofs.searches.miss.Goals as goal

pub returns : goal.returns
returns c = let b = c.args.bus.now in
    c.of_drivers.ensures
    ∙ ap (λ (ds : List Driver). find (is_missed b c.args.only c.args.miss) (flat_map (λ d. flat_map (moves b.history d) (wires d)) ds))
    (c.as_slice.ensures.value ∙ c.drivers.ensures ∙ ap drivers c.plan.ensures)
