-- Which of two edges that were seen came before the other.
use Rattle.std.specs.Prelude.{◌==◌, ◌&&◌, ◌||◌, ◌+◌, ◌<◌, ℕ, Bool, true, false, nat_lt, get_or, slice_index_or}
use Rattle.vme_model.specs.declared.signals.Driver.{Driver}
use Rattle.vme_model.specs.declared.signals.Driver.TheVariants as driver
use Rattle.vme_model.specs.declared.signals.Wire.{Wire}
use Rattle.vme_model.specs.declared.signals.Wire.TheVariants as wire
use Rattle.vme_model.specs.declared.signals.Edge.{Edge}
use Rattle.vme_moments.specs.declared.before.Part.{Part}
use Rattle.vme_moments.specs.declared.before.Part.TheVariants.{Arbiter, Acknowledger, Timer, Board}
use Rattle.vme_moments.specs.declared.slacks.Slacks.{Slacks}
use Rattle.vme_moments.specs.declared.Seen.{Seen}

-- the part of the controller that drives a wire
abbrev pub controller_part : Wire → Part
controller_part wire.Iack = Acknowledger
controller_part wire.Berr = Timer
controller_part _ = Arbiter

-- the part that makes the edges of a wire
abbrev pub part_at : Driver → Wire → Part
part_at driver.Controller w = controller_part w
part_at (driver.Slot s) w = Board s

abbrev pub part_of : Edge → Part
part_of e = part_at e.driver e.wire

-- the two are one part
abbrev pub is_same_part : Part → Part → Bool
is_same_part Arbiter Arbiter = true
is_same_part Acknowledger Acknowledger = true
is_same_part Timer Timer = true
is_same_part (Board s) (Board t) = s == t
is_same_part _ _ = false

-- how many moments before it was seen an edge of the driver may have taken effect
abbrev pub slack_of : Slacks → Driver → ℕ
slack_of x driver.Controller = x.controller
slack_of x (driver.Slot s) = get_or x.boards s 0

-- the controller, or a slot of 21 at most
abbrev pub IsKnown : Driver → Type 0
IsKnown driver.Controller = Unit {0}
IsKnown (driver.Slot s) = s < 22

-- the driver is named with a slack of its own
abbrev pub names : Slacks → Driver → Bool
names x driver.Controller = x.is_named
names x (driver.Slot s) = slice_index_or x.are_named s false

-- An edge at the first moment came before one that was seen at the other moment, if that one has
-- this slack. The sum has no bound.
abbrev pub is_timely : ℕ → ℕ → ℕ → Bool
is_timely first slack other = nat_lt (first + slack) other

-- The first came before the other: the slack of the other's driver does not reach back to it, or
-- one part made both at different moments.
abbrev pub before : Slacks → Seen → Seen → Bool
before x a b =
    is_timely a.moment (slack_of x b.edge.driver) b.moment
    || (is_same_part (part_of a.edge) (part_of b.edge) && nat_lt a.moment b.moment)
