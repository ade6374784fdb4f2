-- What a change moves: a shared line, or a segment of a daisy chain. A segment is named by the slot
-- of the board that drives it, and 0 names the controller's.
use Rattle.std.specs.Prelude.{◌&&◌, ℕ, Bool, nat_lt, unwrap_or}
use Rattle.vme_model.specs.declared.sets.BusLevels.{BusLevels}
use Rattle.vme_model.specs.declared.sets.ChainId.{ChainId}
use Rattle.vme_model.specs.declared.sets.ChainId.TheVariants.{Bg0, Bg1, Bg2, Bg3, Iack}
use Rattle.vme_model.specs.Plan.{Plan}
use Rattle.vme_model.specs.Sets.{bus_levels}
use Rattle.vme_captures.specs.declared.levels.Levels.{Levels}
use Rattle.vme_captures.specs.declared.signals.Line.TheVariants.{Br}
use Rattle.vme_captures.specs.declared.signals.Signal.{Signal}
use Rattle.vme_captures.specs.declared.signals.Signal.TheVariants.{Line, Pin}
use Rattle.vme_captures.specs.Levels.{is_line_left_low}
use Rattle.vme_captures.specs.Signals.{is_line}
use Rattle.vme_captures.specs.Wires.{wire_of}
use Rattle.vme_standings.specs.declared.moving.Moved.{Moved}
use Rattle.vme_standings.specs.declared.moving.Moved.TheVariants as moved

abbrev pub segment_moved : ChainId → ℕ → Moved
segment_moved Bg0 place = moved.Grant 0 place
segment_moved Bg1 place = moved.Grant 1 place
segment_moved Bg2 place = moved.Grant 2 place
segment_moved Bg3 place = moved.Grant 3 place
segment_moved Iack place = moved.Acknowledge place

-- the line, or the wire of the pin
abbrev pub moved_by : Plan → Signal → Moved
moved_by p (Line l) = moved.Line l
moved_by p (Pin q) = segment_moved q.chain (unwrap_or (wire_of p q).place 0)

-- some backplane can have it
abbrev pub is_near : Moved → Bool
is_near (moved.Line l) = is_line l
is_near (moved.Grant c place) = nat_lt c 4 && nat_lt place 22
is_near (moved.Acknowledge place) = nat_lt place 22

-- the levels of the BR lines that are low
abbrev pub asked : Levels → BusLevels
asked lines = bus_levels (λ n. is_line_left_low lines (Br n))
