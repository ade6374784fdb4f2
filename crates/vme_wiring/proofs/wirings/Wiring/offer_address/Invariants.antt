use Rattle.std.proofs.Common.{◌≡◌, ◌≤◌, ◌+◌, ◌++◌, List, take, filter, length}
use Rattle.vme_model.specs.declared.signals.Edge.{Edge}
use Rattle.vme_model.specs.declared.signals.Version.{Version}
use Rattle.vme_model.specs.Plan.{Plan}
use Rattle.vme_wiring.specs.Offered.{is_open}
use Rattle.vme_wiring.specs.Wired.{IsWiringOf}
use Rattle.vme_wiring.proofs.wirings.Wiring.offer_address.Given as goal

abbrev pub invariant-loop-edge : goal.invariant-loop-edge
invariant-loop-edge l = record {
  offered : (version : Version) (p : Plan) (h : List Edge) → IsWiringOf version p h l.self → l.offers.items ≡ l.fn.offers.items ++ filter (is_open version p h) (take l.edge-index l.edge-items);
  few : length l.offers.items ≤ length l.fn.offers.items + l.edge-index;
}
