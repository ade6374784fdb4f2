use Rattle.std.proofs.Common.{◌≡◌, ◌<◌, ◌≤◌, ℕ, length, get_or}
use Rattle.vme_summary.specs.Tallied.{more}
use Rattle.vme_summary.proofs.counts.add_counts.Given as goal

abbrev pub invariant-loop-place : goal.invariant-loop-place
invariant-loop-place l = record {
  places : length l.counts ≡ length l.fn.counts;
  done : (k : ℕ) → k < l.place → get_or l.counts k 0 ≡ more (get_or l.fn.counts k 0) (get_or l.others k 0);
  left : (k : ℕ) → l.place ≤ k → get_or l.counts k 0 ≡ get_or l.fn.counts k 0;
}
