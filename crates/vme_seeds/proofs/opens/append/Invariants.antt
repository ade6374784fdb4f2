use Rattle.std.proofs.Common.{◌≡◌, ◌++◌, take}
use Rattle.vme_seeds.proofs.opens.append.Given as goal

abbrev pub invariant-loop-edge : goal.invariant-loop-edge
invariant-loop-edge l = l.edges.items ≡ l.fn.edges.items ++ take l.edge-index l.others
