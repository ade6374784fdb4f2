use Rattle.std.proofs.Common.{◌≡◌, ◌+◌, length, drop}
use Rattle.vme_model.specs.Verdict.{kept}
use Rattle.vme_bus.proofs.buses.Bus.run.Given as goal

abbrev pub invariant-loop-edge : goal.invariant-loop-edge
invariant-loop-edge l = record {
  state : kept l.fn.self l.edges ≡ kept l.self (drop l.edge-index l.edges);
  accepted : length l.fn.self.history + l.counts.accepted ≡ length l.self.history;
  counted : l.counts.accepted + l.counts.refused ≡ l.edge-index;
}
