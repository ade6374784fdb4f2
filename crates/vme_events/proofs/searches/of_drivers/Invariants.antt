use Rattle.std.proofs.Common.{◌≡◌, drop, find}
use Rattle.std.specs.List.{flat_map}
use Rattle.vme_model.specs.Offers.{wires}
use Rattle.vme_model.specs.Open.{moves}
use Rattle.vme_events.specs.Misses.{is_missed}
use Rattle.vme_events.proofs.searches.of_drivers.Given as goal

abbrev pub invariant-loop-driver : goal.invariant-loop-driver
invariant-loop-driver l =
    find (is_missed l.bus l.only l.miss) (flat_map (λ d. flat_map (moves l.bus.history d) (wires d)) l.drivers)
    ≡ find (is_missed l.bus l.only l.miss) (flat_map (λ d. flat_map (moves l.bus.history d) (wires d)) (drop l.driver-index l.drivers))
