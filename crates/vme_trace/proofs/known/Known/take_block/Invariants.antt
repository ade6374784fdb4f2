use Rattle.std.proofs.Common.{◌≡◌, ◌≤◌, ◌<◌, ◌+◌, ℕ, drop, get_or, vec_capacity}
use Rattle.std.specs.Int.{bit_at}
use Rattle.vme_trace.specs.Taking.{HasLines}
use Rattle.vme_trace.proofs.known.Known.take_block.Given as goal

abbrev pub invariant-lines : goal.invariant-lines
invariant-lines g l = record {
  next : l.start ≤ l.at + 64;
  feeds : (k : ℕ) → bit_at l.feeds k ≡ 1 → (k < 64) × (get_or l.piece (l.at + k) 0 ≡ 10);
  so_far : HasLines (drop l.from l.piece) (drop l.start l.piece) l.fn.edges.items l.edges.items;
  capacity : vec_capacity l.edges ≡ vec_capacity l.fn.edges;
}

abbrev pub decreases-lines : goal.decreases-lines
decreases-lines g l = l.feeds
