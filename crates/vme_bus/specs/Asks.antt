-- Whether a board asks at the level that is shown; and which rule names an edge.
use Rattle.std.specs.Prelude.{◌≡◌, ℕ, Bool, true, false, Option, Some}
use Rattle.vme_model.specs.declared.signals.Cycle.{Cycle}
use Rattle.vme_model.specs.declared.signals.Cycle.TheVariants.{Acknowledge}
use Rattle.vme_model.specs.declared.signals.Version.{Version}
use Rattle.vme_model.specs.declared.signals.Wire.{Wire}
use Rattle.vme_model.specs.Readings.{Readings, is_pending}
use Rattle.vme_model.specs.Rules.{guard}

abbrev pub asks_at : Readings → Option Cycle → Bool
asks_at r (Some (Acknowledge level)) = is_pending r level
asks_at r _ = false

-- the number is that of the rule for an edge of the wire, if that holds
abbrev pub IsNumbered : ℕ → Wire → Bool → Bool → Type 0
IsNumbered n w fall known =
    (version : Version) (r : Readings) (v : Option Cycle)
    → known ≡ true → n ≡ (guard version r w fall v).0
