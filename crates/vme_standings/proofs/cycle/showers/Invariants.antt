use Rattle.std.proofs.Common.{◌≡◌, ℕ}
use Rattle.std.specs.Prelude.{◌&&◌, nat_lt}
use Rattle.vme_bus.specs.Sets.{has}
use Rattle.vme_standings.specs.Cycles.{may_show_at}
use Rattle.vme_standings.proofs.cycle.showers.Given as goal

abbrev pub invariant-loop-slot : goal.invariant-loop-slot
invariant-loop-slot l = (s : ℕ) → has l.slots s ≡ (nat_lt s l.slot && (may_show_at l.cycle l.plan s && has l.holders s))
