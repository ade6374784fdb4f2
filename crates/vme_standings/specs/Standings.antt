-- What is asked of all that is known of a bus.
use Rattle.std.specs.Prelude.{◌≡◌, ◌==◌, ◌&&◌, not, ℕ, Bool, true, false, is_some}
use Rattle.vme_model.specs.Plan.{Plan, board}
use Rattle.vme_bus.specs.Sets.{has}
use Rattle.vme_captures.specs.declared.signals.Line.TheVariants as line
use Rattle.vme_captures.specs.declared.signals.Signal.{Signal}
use Rattle.vme_standings.specs.declared.moving.Moved.{Moved}
use Rattle.vme_standings.specs.declared.moving.Moved.TheVariants as moved
use Rattle.vme_standings.specs.declared.standings.Drivers.{Drivers}
use Rattle.vme_standings.specs.Boards.{has_requester}
use Rattle.vme_standings.specs.Driving.{is_board_at}
use Rattle.vme_standings.specs.GrantChains.{is_of_level}
use Rattle.vme_standings.specs.Moving.{moved_by}
use Rattle.vme_standings.specs.Requests.{is_on_level}

-- the board has the line, or drives the segment
abbrev pub drives : Plan → Moved → ℕ → Bool
drives p (moved.Line (line.Br n)) s = is_of_level p n s
drives p (moved.Line (line.Irq n)) s = is_on_level p n s
drives p (moved.Line line.Bbsy) s = has_requester p s
drives p (moved.Line line.AddressStrobe) s = has_requester p s
drives p (moved.Line line.DataStrobe) s = has_requester p s
drives p (moved.Line line.Dtack) s = is_some (board p s)
drives p (moved.Line line.Berr) s = false
drives p (moved.Line line.Bclr) s = false
drives p (moved.Grant c place) s = is_board_at place s
drives p (moved.Acknowledge place) s = is_board_at place s

-- the controller does
abbrev pub controller_drives : Moved → Bool
controller_drives (moved.Line line.Berr) = true
controller_drives (moved.Line line.Bclr) = true
controller_drives (moved.Line _) = false
controller_drives (moved.Grant c place) = place == 0
controller_drives (moved.Acknowledge place) = place == 0

-- exactly those who have the line, or drive the wire of the pin
pub record Drive (p : Plan) (x : Signal) (d : Drivers) : Type 0 where
  pub controller : d.controller ≡ controller_drives (moved_by p x)
  pub boards : (s : ℕ) → has d.boards s ≡ drives p (moved_by p x) s

-- nobody
abbrev pub is_nobody : Drivers → Bool
is_nobody d = not d.controller && (d.boards.bits == 0)
