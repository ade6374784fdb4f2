-- The driver whose edges alone count, as `--of` names it.
use Rattle.std.specs.Prelude.{◌≡◌, ◌≤◌, codes}
use Rattle.clap.specs.Words.{Text}
use Rattle.vme_model.specs.declared.Driver.{Driver}
use Rattle.vme_model.specs.declared.Driver.TheVariants.{Controller, Slot}
use Rattle.vme_command_line.specs.Numbers.{IsSeed}

-- a text names the driver: `c` is the controller, and a number is a slot
abbrev pub IsNameOf : Text → Driver → Type 0
IsNameOf text Controller = text ≡ codes "c"
IsNameOf text (Slot s) = (1 ≤ s) × (s ≤ 21) × IsSeed text s

abbrev pub NamesNobody : Text → Type 0
NamesNobody text = (d : Driver) → ¬ IsNameOf text d
