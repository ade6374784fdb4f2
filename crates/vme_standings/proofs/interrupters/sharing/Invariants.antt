use Rattle.std.proofs.Common.{◌≡◌, ◌≢◌, ◌<◌, ℕ, true}
use Rattle.vme_bus.specs.Sets.{has}
use Rattle.vme_standings.specs.Interrupters.{SharesLine}
use Rattle.vme_standings.specs.Requests.{is_on_level}
use Rattle.vme_standings.proofs.interrupters.sharing.Given as goal

abbrev pub invariant-loop-level : goal.invariant-loop-level
invariant-loop-level l = record {
  all : (n : ℕ) → n < l.level → (s t : ℕ) → is_on_level l.plan n s ≡ true → is_on_level l.plan n t ≡ true → t ≢ s → has l.shared s ≡ true;
  others : (s : ℕ) → has l.shared s ≡ true → SharesLine l.plan s;
}
