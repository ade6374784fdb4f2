-- Which conditions can refuse an edge alone, so that a trace can end with such an edge.
use Rattle.std.specs.Prelude.{◌==◌, ◌||◌, ℕ, Bool, true, false, not, List, Option, Some, None, if◌then◌else◌}
use Rattle.vme_model.specs.declared.Condition.{Condition}
use Rattle.vme_model.specs.declared.Condition.TheVariants as condition
use Rattle.vme_model.specs.declared.Version.{Version}
use Rattle.vme_goals.specs.declared.misses.Miss.TheVariants as miss
use Rattle.vme_goals.specs.declared.goals.Aim.{Aim}
use Rattle.vme_goals.specs.declared.goals.Aim.TheVariants as aim
use Rattle.vme_goals.specs.Goals.{aim_of}

-- If this condition of that rule fails, another condition of the rule fails too. The data strobe is
-- low only within its own cycle, whose address is shown and whose address strobe is low (G5, G25).
-- An address is on before its own strobe falls, and never together with another's (G16). It goes
-- off after the strobe of its cycle, which falls once (G17). The acknowledge chain is low only
-- while an acknowledge is shown (G23).
abbrev pub is_never_alone : ℕ → Condition → Bool
is_never_alone k condition.AddressStrobeLow = k == 5 || k == 25
is_never_alone k condition.AddressStrobeHigh = k == 16
is_never_alone k condition.OwnAddressOn = k == 17
is_never_alone k condition.AcknowledgeShown = k == 23
is_never_alone k condition.CycleShown = k == 25
is_never_alone k _ = false

-- some trace can reach the aim
abbrev pub can_come : Aim → Bool
can_come (aim.Event e) = true
can_come (aim.Miss (miss.Rule k c)) = not (is_never_alone k c)
can_come (aim.Miss (miss.Unserved kind)) = true
can_come (aim.Miss (miss.Settling k)) = true
can_come (aim.Miss (miss.AnyOf r)) = true

abbrev pub reached : Option Aim → Option Aim
reached None = None
reached (Some a) = if can_come a then Some a else None

-- the aim that words name, among all that a trace can reach in that version
abbrev pub aim_named : List ℕ → Version → Option Aim
aim_named named version = reached (aim_of named version)
