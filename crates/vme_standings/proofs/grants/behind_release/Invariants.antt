use Rattle.std.proofs.Common.{◌≡◌, ◌<◌, ℕ, false}
use Rattle.std.specs.List.{list_any}
use Rattle.vme_bus.specs.Sets.{has}
use Rattle.vme_model.specs.Plan.{active, grant_chain}
use Rattle.vme_standings.specs.Phases.{granting_row, held_row, expired_row, is_idle_at}
use Rattle.vme_standings.proofs.grants.behind_release.Given as goal

abbrev pub invariant-loop-level : goal.invariant-loop-level
invariant-loop-level l = record {
  made : (c : ℕ) → c < l.level → is_idle_at l.behind c ≡ list_any (has l.boards) (active l.plan (grant_chain c));
  granting : (c t : ℕ) → c < 4 → t < 32 → has (granting_row l.behind c) t ≡ false;
  held : (c t : ℕ) → c < 22 → t < 32 → has (held_row l.behind c) t ≡ false;
  expired : (c t : ℕ) → c < 4 → t < 32 → has (expired_row l.behind c) t ≡ false;
}
