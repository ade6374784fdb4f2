-- What a probe can be on, and what it can see there. (The lines are those of chapters 2 to 4; which
-- of them stand in a capture is this project's profile.)
use Rattle.std.specs.Prelude.{◌==◌, ◌&&◌, ℕ, Bool, true, false, Option, Some, None, nat_lt}
use Rattle.vme_model.specs.declared.sets.ChainId.{ChainId}
use Rattle.vme_model.specs.declared.sets.ChainId.TheVariants as chain
use Rattle.vme_model.specs.Signals.{is_slot, is_level, is_in_range}
use Rattle.vme_captures.specs.declared.signals.Line.{Line}
use Rattle.vme_captures.specs.declared.signals.Line.TheVariants as line
use Rattle.vme_captures.specs.declared.signals.Side.{Side}
use Rattle.vme_captures.specs.declared.signals.Side.TheVariants.{In, Out}
use Rattle.vme_captures.specs.declared.signals.Pin.{Pin}
use Rattle.vme_captures.specs.declared.signals.Segment.{Segment}
use Rattle.vme_captures.specs.declared.signals.Signal.{Signal}
use Rattle.vme_captures.specs.declared.signals.Signal.TheVariants as signal
use Rattle.vme_captures.specs.declared.signals.Value.{Value}
use Rattle.vme_captures.specs.declared.signals.Value.TheVariants as value
use Rattle.vme_captures.specs.declared.signals.Change.{Change}

-- there is such a line: BR0* to BR3*, IRQ1* to IRQ7*, and the others
abbrev pub is_line : Line → Bool
is_line (line.Br n) = nat_lt n 4
is_line (line.Irq n) = is_level n
is_line _ = true

-- the two are one line
abbrev pub is_same_line : Line → Line → Bool
is_same_line (line.Br m) (line.Br n) = m == n
is_same_line (line.Irq m) (line.Irq n) = m == n
is_same_line line.Bbsy line.Bbsy = true
is_same_line line.AddressStrobe line.AddressStrobe = true
is_same_line line.DataStrobe line.DataStrobe = true
is_same_line line.Dtack line.Dtack = true
is_same_line line.Berr line.Berr = true
is_same_line line.Bclr line.Bclr = true
is_same_line _ _ = false

-- the two are one chain
abbrev pub is_same_chain : ChainId → ChainId → Bool
is_same_chain chain.Bg0 chain.Bg0 = true
is_same_chain chain.Bg1 chain.Bg1 = true
is_same_chain chain.Bg2 chain.Bg2 = true
is_same_chain chain.Bg3 chain.Bg3 = true
is_same_chain chain.Iack chain.Iack = true
is_same_chain _ _ = false

abbrev pub is_same_side : Side → Side → Bool
is_same_side In In = true
is_same_side Out Out = true
is_same_side _ _ = false

-- the two are one pin
abbrev pub is_same_pin : Pin → Pin → Bool
is_same_pin a b = a.slot == b.slot && is_same_chain a.chain b.chain && is_same_side a.side b.side

-- the controller, or a slot
abbrev pub is_same_place : Option ℕ → Option ℕ → Bool
is_same_place None None = true
is_same_place (Some s) (Some t) = s == t
is_same_place _ _ = false

-- the two are one wire
abbrev pub is_same_segment : Segment → Segment → Bool
is_same_segment a b = is_same_chain a.chain b.chain && is_same_place a.place b.place

-- the two are one line, or one pin
abbrev pub is_same_signal : Signal → Signal → Bool
is_same_signal (signal.Line a) (signal.Line b) = is_same_line a b
is_same_signal (signal.Pin a) (signal.Pin b) = is_same_pin a b
is_same_signal _ _ = false

-- some backplane can have such a line or pin
abbrev pub is_signal : Signal → Bool
is_signal (signal.Line l) = is_line l
is_signal (signal.Pin q) = is_slot q.slot

-- such a change can be seen: a fall of AS* is seen with what was shown, one of DTACK* maybe with a
-- status byte, and nothing else with anything (profile)
abbrev pub has_value : Signal → Bool → Option Value → Bool
has_value (signal.Line line.AddressStrobe) true (Some (value.Shown v)) = is_in_range v
has_value (signal.Line line.AddressStrobe) true (Some value.Access) = true
has_value (signal.Line line.AddressStrobe) true _ = false
has_value (signal.Line line.Dtack) true (Some (value.Status b)) = nat_lt b 256
has_value _ _ None = true
has_value _ _ (Some _) = false

abbrev pub is_change : Change → Bool
is_change c = is_signal c.signal && has_value c.signal c.fall c.value
