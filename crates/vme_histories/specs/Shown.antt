-- What the address lines show, and which slot shows it.
use Rattle.std.specs.Prelude.{◌==◌, if◌then◌else◌, ℕ, Bool, false, Option, Some, None}
use Rattle.vme_model.specs.declared.signals.Wire.{Wire}
use Rattle.vme_model.specs.declared.signals.Wire.TheVariants.{Addr}
use Rattle.vme_model.specs.declared.signals.Cycle.{Cycle}
use Rattle.vme_model.specs.declared.signals.Cycle.TheVariants.{Access}

-- what is shown is an access to the slot (chapter 2)
abbrev pub is_access_to : ℕ → Option Cycle → Bool
is_access_to s (Some (Access t)) = s == t
is_access_to s _ = false

-- the slot whose address group is on, after an edge of the slot's board
abbrev pub addressing_after : Option ℕ → ℕ → Wire → Bool → Option ℕ
addressing_after on s Addr fall = if fall then Some s else None
addressing_after on s _ fall = on
