-- Captures that say less of what was seen. (What may be left out is this project's profile.)
use Rattle.std.specs.Prelude.{◌||◌, not, Bool, List, Option, Some, None}
use Rattle.std.specs.List.{filter, list_all}
use Rattle.vme_model.specs.declared.signals.Cycle.TheVariants as cycle
use Rattle.vme_model.specs.Plan.{Plan}
use Rattle.vme_captures.specs.declared.signals.Pin.{Pin}
use Rattle.vme_captures.specs.declared.signals.Signal.{Signal}
use Rattle.vme_captures.specs.declared.signals.Signal.TheVariants as signal
use Rattle.vme_captures.specs.declared.signals.Value.{Value}
use Rattle.vme_captures.specs.declared.signals.Value.TheVariants.{Shown, Access, Status}
use Rattle.vme_captures.specs.declared.signals.Change.{Change}
use Rattle.vme_captures.specs.Signals.{is_same_pin, is_same_signal}
use Rattle.vme_captures.specs.Wires.{is_on, wire_of}
use Rattle.vme_captures.specs.Possible.{Capture}

-- No other one of these pins is on the wire of the pin. So it is in every capture that is read
-- without a fault.
abbrev pub has_own_wire : Plan → List Pin → Pin → Bool
has_own_wire p pins q = list_all (λ r. is_same_pin q r || not (is_on p (wire_of p q) r)) pins

-- it is not this pin
abbrev pub is_not_pin : Pin → Signal → Bool
is_not_pin q x = not (is_same_signal (signal.Pin q) x)

-- the capture without the pin and all that it says of it
abbrev pub without_pin : Pin → Capture → Capture
without_pin q c = record c {
  pins = filter (λ r. not (is_same_pin q r)) c.pins;
  lows = filter (is_not_pin q) c.lows;
  changes = filter (λ v. is_not_pin q v.signal) c.changes;
}

abbrev pub value_without_byte : Option Value → Option Value
value_without_byte (Some (Status b)) = None
value_without_byte x = x

-- the change without the status byte that was captured with it, if one was
abbrev pub without_byte : Change → Change
without_byte v = record v { value = value_without_byte v.value }

abbrev pub value_without_slot : Option Value → Option Value
value_without_slot (Some (Shown (cycle.Access s))) = Some Access
value_without_slot x = x

-- the change without the slot of the access that was captured with it, if one was
abbrev pub without_slot : Change → Change
without_slot v = record v { value = value_without_slot v.value }
