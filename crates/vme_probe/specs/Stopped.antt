-- What is written of a change that nobody may have made.
use Rattle.std.specs.Prelude.{◌||◌, ◌++◌, ◌∷◌, [], if◌then◌else◌, ℕ, zero, suc, Bool, false, List, Option, Some, None}
use Rattle.vme_model.specs.declared.signals.Driver.{Driver}
use Rattle.vme_model.specs.declared.signals.Driver.TheVariants.{Controller, Slot}
use Rattle.vme_model.specs.declared.signals.Version.{Version}
use Rattle.vme_model.specs.Plan.{Plan}
use Rattle.vme_bus.specs.declared.sets.SlotSet.{SlotSet}
use Rattle.vme_bus.specs.Sets.{has}
use Rattle.vme_captures.specs.declared.signals.Change.{Change}
use Rattle.vme_standings.specs.declared.standings.Drivers.{Drivers}
use Rattle.vme_standings.specs.declared.standings.Standings.{Standings}
use Rattle.vme_standings.specs.Standings.{is_nobody}
use Rattle.vme_probe.specs.declared.obstacles.Obstacle.{Obstacle}
use Rattle.vme_probe.specs.Conditions.{obstacle}
use Rattle.vme_probe.specs.Obstacles.{is_ours, no_driver_line, obstacle_line}
use Rattle.vme_probe.specs.Lines.{impossible_line, none_line}

-- what stands in the way of a driver, if it has the line or drives the wire of the change
unfoldable pub obstacle_if : Plan → Version → Standings → Change → Driver → Bool → Option Obstacle
obstacle_if p v st c d has_line = if has_line then obstacle p v st c d else None

abbrev pub obstacle_text : Driver → Option Obstacle → List ℕ
obstacle_text d None = []
obstacle_text d (Some o) = obstacle_line d o ++ 10 ∷ []

-- it is a condition of our own rules alone
abbrev pub is_ours_if : Option Obstacle → Bool
is_ours_if None = false
is_ours_if (Some o) = is_ours o

-- what stands in the way of the board in a slot
abbrev pub board_obstacle : Plan → Version → Standings → Change → SlotSet → ℕ → Option Obstacle
board_obstacle p v st c boards s = obstacle_if p v st c (Slot s) (has boards s)

-- the lines of the boards below the n-th
abbrev pub lines_below : (ℕ → Option Obstacle) → ℕ → List ℕ
lines_below found zero = []
lines_below found (suc n) = lines_below found n ++ obstacle_text (Slot n) (found n)

-- some of these has a condition of our own rules alone
abbrev pub ours_below : (ℕ → Option Obstacle) → ℕ → Bool
ours_below found zero = false
ours_below found (suc n) = ours_below found n || is_ours_if (found n)

-- of all slots that a backplane has
unfoldable pub board_lines : (ℕ → Option Obstacle) → List ℕ
board_lines found = lines_below found 22

unfoldable pub has_ours : (ℕ → Option Obstacle) → Bool
has_ours found = ours_below found 22

-- the line in the place of theirs, if nobody has the line of the change
abbrev pub nobody_text : Drivers → List ℕ
nobody_text d = if is_nobody d then no_driver_line ++ 10 ∷ [] else []

-- the line of the change, and what stands in the way of each of these drivers
unfoldable pub refused_text : Plan → Version → Standings → ℕ → Change → Drivers → List ℕ
refused_text p v st m c d =
    ((none_line m c ++ nobody_text d)
    ++ obstacle_text Controller (obstacle_if p v st c Controller d.controller))
    ++ board_lines (board_obstacle p v st c d.boards)

-- some of that is a condition of our own rules alone
unfoldable pub is_refused_by_ours : Plan → Version → Standings → Change → Drivers → Bool
is_refused_by_ours p v st c d =
    is_ours_if (obstacle_if p v st c Controller d.controller)
    || has_ours (board_obstacle p v st c d.boards)

-- the same, and the last line
unfoldable pub stopped_text : Plan → Version → Standings → ℕ → Change → Drivers → List ℕ
stopped_text p v st m c d =
    refused_text p v st m c d ++ impossible_line m (is_refused_by_ours p v st c d)
