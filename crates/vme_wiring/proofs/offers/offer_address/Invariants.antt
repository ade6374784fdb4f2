use Rattle.std.proofs.Common.{◌≡◌, ◌≤◌, ◌+◌, ◌++◌, List, take, filter, length}
use Rattle.vme_model.specs.declared.signals.Edge.{Edge}
use Rattle.vme_model.specs.declared.signals.Version.{Version}
use Rattle.vme_model.specs.Plan.{Plan}
use Rattle.vme_wiring.specs.Offered.{is_open}
use Rattle.vme_wiring.proofs.offers.offer_address.Given as goal

abbrev pub invariant-loop-edge : goal.invariant-loop-edge
invariant-loop-edge g l = record {
  offered : (version : Version) (p : Plan) (h : List Edge) → g.J.Judges.is_of version p h l.state → l.offers.items ≡ l.fn.offers.items ++ filter (is_open version p h) (take l.edge-index l.edge-items);
  few : length l.offers.items ≤ length l.fn.offers.items + l.edge-index;
}
