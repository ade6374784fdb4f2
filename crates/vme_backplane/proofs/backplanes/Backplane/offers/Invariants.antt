use Rattle.std.proofs.Common.{◌≡◌, ◌≤◌, take, filter, length}
use Rattle.std.specs.Prelude.{is_ok}
use Rattle.vme_model.specs.Verdict.{verdict}
use Rattle.vme_backplane.proofs.backplanes.Backplane.offers.Given as goal

abbrev pub invariant-loop-edge : goal.invariant-loop-edge
invariant-loop-edge l = record {
  accepted : l.offers.items ≡ filter (λ e. is_ok (verdict l.self e)) (take l.edge-index l.edge-items);
  few : length l.offers.items ≤ l.edge-index;
}
