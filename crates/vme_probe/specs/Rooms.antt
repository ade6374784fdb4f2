-- The room for what is written, and the most that each part of it takes, in bytes.
use Rattle.std.specs.Prelude.{ℕ}

-- all that is written behind the lines of the changes
abbrev pub report_room : ℕ
report_room = 32768

-- ---- what stands in the way of a change

-- the line of a change that nobody may have made
abbrev pub none_width : ℕ
none_width = 55

-- the line that says that nobody has a line or drives a wire
abbrev pub nobody_width : ℕ
nobody_width = 40

-- the line of what stands in the way of a driver
abbrev pub obstacle_width : ℕ
obstacle_width = 97

-- these lines of all 22 boards
abbrev pub boards_width : ℕ
boards_width = 2134

-- all lines of a change that nobody may have made
abbrev pub refused_width : ℕ
refused_width = 2326

-- the words for what our own rules alone forbid
abbrev pub ours_width : ℕ
ours_width = 19

-- the last line of an impossible capture
abbrev pub impossible_width : ℕ
impossible_width = 52

-- ---- the changes of a sample

-- the line of a change with those who may have made it
abbrev pub change_width : ℕ
change_width = 160

-- these lines of 12 changes
abbrev pub sample_width : ℕ
sample_width = 1920

-- and all lines of 12 changes that nobody may have made
abbrev pub stopped_width : ℕ
stopped_width = 29832

-- ---- how the bus stands

-- the line of a possible capture
abbrev pub possible_width : ℕ
possible_width = 30

-- the line of the boards that may hold the bus
abbrev pub holder_width : ℕ
holder_width = 103

-- a place at which a grant may stand
abbrev pub place_width : ℕ
place_width = 14

-- these places of one level, at 22 boards
abbrev pub places_width : ℕ
places_width = 308

-- the room for those of all levels
abbrev pub places_room : ℕ
places_room = 1280

-- the line of them
abbrev pub grant_width : ℕ
grant_width = 1286

-- the line of what AS* fell with
abbrev pub cycle_width : ℕ
cycle_width = 102

-- the line of the boards that may pull a line
abbrev pub low_width : ℕ
low_width = 101

-- these lines of BR0* to BR3*
abbrev pub requests_width : ℕ
requests_width = 404

-- and of IRQ1* to IRQ7*
abbrev pub interrupts_width : ℕ
interrupts_width = 707

-- all lines of how the bus stands
abbrev pub standing_width : ℕ
standing_width = 2632

-- ---- what may come next

-- the line of a change that may come next
abbrev pub coming_width : ℕ
coming_width = 127

-- these lines of BR0* to BR3*
abbrev pub next_requests_width : ℕ
next_requests_width = 508

-- of IRQ1* to IRQ7*
abbrev pub next_interrupts_width : ℕ
next_interrupts_width = 889

-- of AS*: seven acknowledges and an access
abbrev pub next_strobes_width : ℕ
next_strobes_width = 1016

-- of all shared lines
abbrev pub next_lines_width : ℕ
next_lines_width = 3048

-- of the probed pins of a chain, at 22 boards
abbrev pub next_pins_width : ℕ
next_pins_width = 2794

-- of all lines and pins
abbrev pub next_width : ℕ
next_width = 17018
