-- The wires of a backplane on which a pin lies. (Chapters 3 and 4: each output is the next slot's
-- input; a board that does not work a chain joins its input and output, and so does a jumper.)
use Rattle.std.specs.Prelude.{◌&&◌, ◌||◌, ◌-◌, if◌then◌else◌, ℕ, Bool, Option, Some, List, is_some, find}
use Rattle.std.specs.List.{list_all}
use Rattle.vme_model.specs.declared.sets.ChainId.{ChainId}
use Rattle.vme_model.specs.Plan.{Plan, board, up_to, is_active, upstream}
use Rattle.vme_model.specs.Accepted.{is_joined}
use Rattle.vme_captures.specs.declared.signals.Side.{Side}
use Rattle.vme_captures.specs.declared.signals.Side.TheVariants.{In, Out}
use Rattle.vme_captures.specs.declared.signals.Pin.{Pin}
use Rattle.vme_captures.specs.declared.signals.Segment.{Segment}
use Rattle.vme_captures.specs.Signals.{is_same_segment}

-- the slot's input: the output of the greatest board below that works the chain, or the
-- controller's wire
abbrev pub input_wire : Plan → ChainId → ℕ → Segment
input_wire p c s = record { chain = c; place = upstream p c s }

-- the slot's output: a wire of its own if its board works the chain, or else that of its input
abbrev pub output_wire : Plan → ChainId → ℕ → Segment
output_wire p c s =
    if is_active p.rows c s then record { chain = c; place = Some s } else input_wire p c s

abbrev pub wire_on : Plan → ChainId → ℕ → Side → Segment
wire_on p c s In = input_wire p c s
wire_on p c s Out = output_wire p c s

-- the wire of a pin
abbrev pub wire_of : Plan → Pin → Segment
wire_of p q = wire_on p q.chain q.slot q.side

-- a board stands in the slot, or a jumper joins the chain there
abbrev pub is_closed : Plan → ChainId → ℕ → Bool
is_closed p c s = is_some (board p s) || is_joined p s c

-- the backplane has the pin: its slot has a board, and no slot below leaves the chain open
abbrev pub has_pin : Plan → Pin → Bool
has_pin p q =
    is_some (board p q.slot) && list_all (is_closed p q.chain) (up_to (q.slot - 1))

-- the pin is on the wire
abbrev pub is_on : Plan → Segment → Pin → Bool
is_on p g q = is_same_segment (wire_of p q) g

-- the first of these pins that is on the wire
abbrev pub pin_on : Plan → List Pin → Segment → Option Pin
pin_on p pins g = find (is_on p g) pins
