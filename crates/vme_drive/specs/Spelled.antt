-- The numbers that stand in the line of an edge.
use Rattle.std.specs.Prelude.{ℕ, Bool, ◌+◌, ◌*◌, if◌then◌else◌}
use Rattle.vme_model.specs.declared.signals.Wire.{Wire}
use Rattle.vme_model.specs.declared.signals.Cycle.{Cycle}
use Rattle.vme_model.specs.declared.signals.Cycle.TheVariants.{Acknowledge, Access}
use Rattle.vme_model.specs.Signals.{wire_number}

-- the number that names what is shown
abbrev pub cycle_number : Cycle → ℕ
cycle_number (Acknowledge v) = v
cycle_number (Access t) = t

-- where the word of a wire stands with the sign of a rise or a fall
abbrev pub move_place : Wire → Bool → ℕ
move_place w fall = 2 * wire_number w + (if fall then 1 else 0)
