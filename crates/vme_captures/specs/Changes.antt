-- What the probes see of an edge, by looking back at the list of edges before it. A list has its
-- newest edge first. (That a line is low while one of its boards pulls it is chapters 2 to 4; that
-- nothing is seen of the address lines but with AS* is this project's profile.)
use Rattle.std.specs.Prelude.{◌==◌, ◌&&◌, not, if◌then◌else◌, Bool, true, false, Option, Some, None, List, ◌∷◌, option_map}
use Rattle.std.specs.Option.{option_and_then}
use Rattle.vme_model.specs.declared.boards.Row.{Row}
use Rattle.vme_model.specs.declared.sets.ChainId.TheVariants as chain
use Rattle.vme_model.specs.declared.signals.Cycle.{Cycle}
use Rattle.vme_model.specs.declared.signals.Cycle.TheVariants as cycle
use Rattle.vme_model.specs.declared.signals.Driver.TheVariants.{Controller}
use Rattle.vme_model.specs.declared.signals.Wire.{Wire}
use Rattle.vme_model.specs.declared.signals.Wire.TheVariants as wire
use Rattle.vme_model.specs.declared.signals.Edge.{Edge}
use Rattle.vme_model.specs.Plan.{Plan, board_of, grant_chain}
use Rattle.vme_model.specs.History.{drive, line, request_line, interrupt_line, segment, shown}
use Rattle.vme_model.specs.Deliveries.{delivery}
use Rattle.vme_captures.specs.declared.signals.Line.{Line}
use Rattle.vme_captures.specs.declared.signals.Line.TheVariants.{Br, Irq, Bbsy, AddressStrobe, DataStrobe, Dtack, Berr, Bclr}
use Rattle.vme_captures.specs.declared.signals.Pin.{Pin}
use Rattle.vme_captures.specs.declared.signals.Segment.{Segment}
use Rattle.vme_captures.specs.declared.signals.Signal.{Signal}
use Rattle.vme_captures.specs.declared.signals.Signal.TheVariants as signal
use Rattle.vme_captures.specs.declared.signals.Value.{Value}
use Rattle.vme_captures.specs.declared.signals.Value.TheVariants.{Shown, Access, Status}
use Rattle.vme_captures.specs.declared.signals.Change.{Change}
use Rattle.vme_captures.specs.Signals.{is_same_signal}
use Rattle.vme_captures.specs.Wires.{wire_of, pin_on}

-- the shared line is low
abbrev pub is_line_low : Plan → List Edge → Line → Bool
is_line_low p h (Br n) = request_line p h n
is_line_low p h (Irq n) = interrupt_line p h n
is_line_low p h Bbsy = line p h wire.Bbsy
is_line_low p h AddressStrobe = line p h wire.AddressStrobe
is_line_low p h DataStrobe = line p h wire.DataStrobe
is_line_low p h Dtack = line p h wire.Dtack
is_line_low p h Berr = drive h Controller wire.Berr
is_line_low p h Bclr = drive h Controller wire.Bclr

-- the line or pin is low
abbrev pub is_low : Plan → List Edge → Signal → Bool
is_low p h (signal.Line l) = is_line_low p h l
is_low p h (signal.Pin q) = segment h (wire_of p q).chain (wire_of p q).place

-- the shared line that a wire of a driver pulls low
abbrev pub line_of : Wire → Option Row → Option Line
line_of wire.Bclr r = Some Bclr
line_of wire.Berr r = Some Berr
line_of wire.Br r = option_map (λ q. Br q.level) (option_and_then (λ b. b.requester) r)
line_of wire.Bbsy r = Some Bbsy
line_of wire.AddressStrobe r = Some AddressStrobe
line_of wire.DataStrobe r = Some DataStrobe
line_of wire.Irq r = option_map (λ i. Irq i.level) (option_and_then (λ b. b.interrupter) r)
line_of wire.Dtack r = Some Dtack
line_of _ r = None

-- the output of a board on the chain of its requester
abbrev pub grant_output : Option Row → Option Segment
grant_output r =
    option_and_then (λ b. option_map
    (λ q. record { chain = grant_chain q.level; place = Some b.slot }) b.requester) r

-- the wire of a daisy chain that a wire of a driver is
abbrev pub segment_of : Wire → Option Row → Option Segment
segment_of (wire.Bg n) r = Some (record { chain = grant_chain n; place = None })
segment_of wire.Iack r = Some (record { chain = chain.Iack; place = None })
segment_of wire.BgOut r = grant_output r
segment_of wire.IackOut r =
    option_map (λ b. record { chain = chain.Iack; place = Some b.slot }) r
segment_of _ r = None

-- what the probes are on that an edge of this wire moves, if there is such a probe
abbrev pub signal_on : Plan → List Pin → Option Line → Option Segment → Option Signal
signal_on p pins (Some l) g = Some (signal.Line l)
signal_on p pins None g =
    option_map (λ q. signal.Pin q) (option_and_then (pin_on p pins) g)

-- the shared line that an edge pulls or lets go, or the probed pin that it moves
abbrev pub signal_of : Plan → List Pin → Edge → Option Signal
signal_of p pins e =
    signal_on p pins (line_of e.wire (board_of p e.driver))
    (segment_of e.wire (board_of p e.driver))

-- what is seen with an edge: at a fall of AS* what is shown, and at one of DTACK* in an acknowledge
-- the status byte
abbrev pub value_at : Plan → List Edge → Edge → Wire → Bool → Option Value
value_at p h e wire.AddressStrobe true = option_map (λ v. Shown v) (shown p h)
value_at p h e wire.Dtack true = option_map (λ d. Status d.status) (delivery p h e)
value_at p h e _ _ = None

-- one is low and the other is high
abbrev pub differ : Bool → Bool → Bool
differ true b = not b
differ false b = b

-- the change if the signal is at another level behind an edge than before it
abbrev pub change_of : Plan → List Edge → Edge → Signal → Option Change
change_of p h e x =
    if differ (is_low p h x) (is_low p (e ∷ h) x)
    then Some (record { signal = x; fall = e.fall; value = value_at p h e e.wire e.fall })
    else None

-- The change that the probes see of an edge behind a list, if they see one. They see none of an
-- address group, of a wire without a pin, and of a line that other boards hold low.
abbrev pub seen : Plan → List Pin → List Edge → Edge → Option Change
seen p pins h e = option_and_then (change_of p h e) (signal_of p pins e)

-- the two are one cycle
abbrev pub is_same_cycle : Cycle → Cycle → Bool
is_same_cycle (cycle.Acknowledge m) (cycle.Acknowledge n) = m == n
is_same_cycle (cycle.Access s) (cycle.Access t) = s == t
is_same_cycle _ _ = false

abbrev pub is_access : Cycle → Bool
is_access (cycle.Access s) = true
is_access _ = false

abbrev pub is_status : Value → Bool
is_status (Status b) = true
is_status _ = false

-- what was captured says what was seen: an access of an unknown slot is any access
abbrev pub is_value_of : Value → Value → Bool
is_value_of (Shown u) (Shown v) = is_same_cycle u v
is_value_of Access (Shown v) = is_access v
is_value_of (Status a) (Status b) = a == b
is_value_of _ _ = false

-- if no status byte was captured, it may be any
abbrev pub are_values_of : Option Value → Option Value → Bool
are_values_of None None = true
are_values_of None (Some v) = is_status v
are_values_of (Some u) (Some v) = is_value_of u v
are_values_of (Some u) None = false

-- sign and sign
abbrev pub is_same_way : Bool → Bool → Bool
is_same_way a b = not (differ a b)

-- a captured change is one that was seen
abbrev pub agrees : Change → Change → Bool
agrees c v =
    is_same_signal c.signal v.signal && is_same_way c.fall v.fall && are_values_of c.value v.value
