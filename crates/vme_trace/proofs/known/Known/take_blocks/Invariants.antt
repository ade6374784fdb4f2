use Rattle.std.proofs.Common.{◌≤◌, ◌-◌, drop, length}
use Rattle.vme_trace.specs.Taking.{HasLines}
use Rattle.vme_trace.proofs.known.Known.take_blocks.Given as goal

abbrev pub invariant-steps : goal.invariant-steps
invariant-steps g l = record {
  at : l.at ≤ length l.piece;
  next : l.start ≤ l.at;
  so_far : HasLines l.piece (drop l.start l.piece) l.fn.edges.items l.edges.items;
}

abbrev pub decreases-steps : goal.decreases-steps
decreases-steps g l = length l.piece - l.at
