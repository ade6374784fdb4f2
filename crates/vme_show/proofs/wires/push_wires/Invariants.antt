use Rattle.std.proofs.Common.{◌≡◌, ◌+◌, ◌≤◌, ◌++◌, length, map, take}
use Rattle.std.specs.Prelude.{filter}
use Rattle.vme_model.specs.Plan.{has_driver}
use Rattle.vme_model.specs.History.{drive}
use Rattle.vme_show.proofs.wires.push_wires.Given as goal

abbrev pub invariant-loop-wire : goal.invariant-loop-wire
invariant-loop-wire l = record {
  items : l.found.items ≡ l.fn.found.items ++ map (λ w. record { driver = l.driver; wire = w; low = drive l.bus.history l.driver w })
      (filter (has_driver l.bus.plan l.driver) (take l.wire-index l.wire-items));
  len : length l.found.items ≤ length l.fn.found.items + l.wire-index;
}
