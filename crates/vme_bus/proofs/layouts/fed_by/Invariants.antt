use Rattle.std.proofs.Common.{◌≡◌, ℕ, false}
use Rattle.std.specs.Prelude.{◌&&◌, nat_lt}
use Rattle.std.specs.Option.{option_map_or}
use Rattle.vme_bus.specs.Sets.{has}
use Rattle.vme_bus.specs.Layouts.{seat, is_input_at}
use Rattle.vme_bus.proofs.layouts.fed_by.Given as goal

abbrev pub invariant-loop-slot : goal.invariant-loop-slot
invariant-loop-slot l = (s : ℕ) → has l.fed s ≡ (nat_lt s l.slot && option_map_or (is_input_at l.input l.place) (seat l.seats s) false)
