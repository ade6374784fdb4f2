use Rattle.std.proofs.Common.{◌≡◌, ℕ}
use Rattle.std.specs.Prelude.{◌&&◌, nat_lt}
use Rattle.vme_bus.specs.Sets.{has}
use Rattle.vme_standings.specs.Interrupters.{is_meant_at}
use Rattle.vme_standings.proofs.interrupters.Interrupters.slots.Given as goal

abbrev pub invariant-loop-slot : goal.invariant-loop-slot
invariant-loop-slot l = (s : ℕ) → has l.slots s ≡ (nat_lt s l.slot && is_meant_at l.self l.plan s)
