use Rattle.std.proofs.Common.{◌≡◌, drop, find}
use Rattle.std.specs.List.{flat_map}
use Rattle.vme_model.specs.Open.{moves}
use Rattle.vme_events.specs.Misses.{is_missed}
use Rattle.vme_events.proofs.searches.on_wires.Given as goal

abbrev pub invariant-loop-wire : goal.invariant-loop-wire
invariant-loop-wire l =
    find (is_missed l.bus l.only l.miss) (flat_map (moves l.bus.history l.driver) l.wires)
    ≡ find (is_missed l.bus l.only l.miss) (flat_map (moves l.bus.history l.driver) (drop l.wire-index l.wires))
