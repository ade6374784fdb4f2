use Rattle.std.proofs.Common.{◌≡◌, ℕ}
use Rattle.std.specs.Prelude.{◌&&◌, nat_lt}
use Rattle.vme_bus.specs.Sets.{has}
use Rattle.vme_bus.specs.States.{OfHistory}
use Rattle.vme_seeds.specs.Kinds.{has_board}
use Rattle.vmebus_c.proofs.played.boards_of.Given as goal

abbrev pub invariant-loop-place : goal.invariant-loop-place
invariant-loop-place l =
    OfHistory l.bus (λ _ p _. (s : ℕ) → has l.boards s ≡ (nat_lt s l.place && has_board p s))
