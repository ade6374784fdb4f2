use Rattle.std.proofs.Common.{◌≡◌, ◌≤◌, ◌+◌, ◌++◌, length, take, filter}
use Rattle.vmebus_c.specs.Played.{is_played}
use Rattle.vmebus_c.proofs.played.append_played.Given as goal

abbrev pub invariant-loop-edge : goal.invariant-loop-edge
invariant-loop-edge g l = record {
  listed : l.edges ≡ l.fn.edges ++ filter (is_played l.wires) (take l.edge-index l.ready);
  few : length l.edges ≤ length l.fn.edges + l.edge-index;
}
