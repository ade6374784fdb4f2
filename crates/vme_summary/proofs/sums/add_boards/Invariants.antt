use Rattle.std.proofs.Common.{◌≡◌, ◌<◌, ◌≤◌, ℕ, length, get_or}
use Rattle.vme_summary.specs.Tallied.{idle}
use Rattle.vme_summary.specs.Summed.{board_with}
use Rattle.vme_summary.proofs.sums.add_boards.Given as goal

abbrev pub invariant-loop-slot : goal.invariant-loop-slot
invariant-loop-slot l = record {
  places : length l.boards ≡ length l.fn.boards;
  done : (k : ℕ) → k < l.slot → get_or l.boards k idle ≡ board_with (get_or l.fn.boards k idle) (get_or l.others k idle);
  left : (k : ℕ) → l.slot ≤ k → get_or l.boards k idle ≡ get_or l.fn.boards k idle;
}
