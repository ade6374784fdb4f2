use Rattle.std.proofs.Common.{◌≡◌, ◌<◌, ℕ, true}
use Rattle.vme_bus.specs.Sets.{has}
use Rattle.vme_standings.specs.Phases.{held_row}
use Rattle.vme_standings.proofs.phases.GrantPhases.holders.Given as goal

abbrev pub invariant-loop-board : goal.invariant-loop-board
invariant-loop-board l = record {
  some : (b : ℕ) → has l.holders b ≡ true → (b < 22) × ((first : ℕ) × (has (held_row l.self b) first ≡ true));
  all : (b : ℕ) → b < l.board → ((first : ℕ) × (has (held_row l.self b) first ≡ true)) → has l.holders b ≡ true;
}
