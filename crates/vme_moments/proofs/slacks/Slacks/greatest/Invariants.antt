use Rattle.std.proofs.Common.{◌≤◌, ◌<◌, ℕ, get_or}
use Rattle.vme_moments.proofs.Greatest.{IsSomeBelow}
use Rattle.vme_moments.proofs.slacks.Slacks.greatest.Given as goal

abbrev pub invariant-loop-slack : goal.invariant-loop-slack
invariant-loop-slack l =
    (l.self.controller ≤ l.greatest)
    × ((k : ℕ) → k < l.slack-index → get_or l.self.boards k 0 ≤ l.greatest)
    × IsSomeBelow l.self l.slack-index l.greatest
