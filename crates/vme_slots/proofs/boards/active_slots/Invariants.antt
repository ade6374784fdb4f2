use Rattle.std.proofs.Common.{◌≡◌}
use Rattle.std.specs.Prelude.{filter}
use Rattle.vme_model.specs.Plan.{up_to, is_active}
use Rattle.vme_slots.proofs.boards.active_slots.Given as goal

abbrev pub invariant-loop-below : goal.invariant-loop-below
invariant-loop-below l = l.active.items ≡ filter (is_active l.rows l.chain) (up_to l.below)
