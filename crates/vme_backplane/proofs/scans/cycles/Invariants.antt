use Rattle.std.proofs.Common.{◌≡◌, ◌+◌, ◌≤◌, reverse, length}
use Rattle.vme_model.specs.History.{cycles}
use Rattle.vme_backplane.proofs.scans.cycles.Given as goal

abbrev pub invariant-loop-edge : goal.invariant-loop-edge
invariant-loop-edge l = record {
  counted : cycles (reverse l.fn.edges) l.fn.board ≡ l.begun + cycles (reverse l.rest) l.fn.board;
  fits : l.begun + length l.rest ≤ length l.fn.edges;
}

abbrev pub decreases-loop-edge : goal.decreases-loop-edge
decreases-loop-edge l = length l.rest
