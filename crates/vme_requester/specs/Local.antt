-- A requester's local state, and what its rules read. A list of noted edges has its newest edge
-- first.
use Rattle.std.specs.Prelude.{◌≡◌, ◌||◌, ℕ, Bool, true, false, not, Some, None, List}
use Rattle.vme_model.specs.declared.boards.RequesterRow.{RequesterRow}
use Rattle.std.specs.Option.{option_and_then}
use Rattle.vme_model.specs.declared.pins.Pins.{Pins}
use Rattle.vme_model.specs.declared.signals.Version.{Version}
use Rattle.vme_model.specs.declared.signals.Driver.TheVariants.{Slot}
use Rattle.vme_model.specs.declared.signals.Wire.{Wire}
use Rattle.vme_model.specs.declared.signals.Wire.TheVariants.{Br, BgOut, Bbsy, Addr, AddressStrobe}
use Rattle.vme_model.specs.declared.signals.Edge.{Edge}
use Rattle.vme_model.specs.Sets.{no_levels, has_bus_level}
use Rattle.vme_model.specs.History.{drive}
use Rattle.vme_model.specs.Readings.{Readings, readings_of_pins}
use Rattle.vme_model.specs.Verdict.{Judgement, ruling}
use Rattle.vme_model.specs.declared.signals.Part.TheVariants as parts
use Rattle.vme_model.specs.Signals.{is_of}

-- what a requester keeps: where it stands, the version of its rules, and which of its wires are low
pub record RequesterState : Type 0 where
  pub slot : ℕ
  pub row : RequesterRow
  pub version : Version
  pub br : Bool
  pub bgout : Bool
  pub bbsy : Bool

-- the state after a list of noted edges
abbrev pub requester_of : ℕ → RequesterRow → Version → List Edge → RequesterState
requester_of s row version noted = record {
  slot = s;
  row = row;
  version = version;
  br = drive noted (Slot s) Br;
  bgout = drive noted (Slot s) BgOut;
  bbsy = drive noted (Slot s) Bbsy;
}

-- the state of the wires, by the local state
abbrev pub low : RequesterState → Wire → Bool
low r Br = r.br
low r BgOut = r.bgout
low r Bbsy = r.bbsy
low r _ = false

-- of its master's wires a requester is given one thing: whether the address group is off or its
-- address strobe low
abbrev pub own_lines : (Wire → Bool) → Bool → Wire → Bool
own_lines own is_address_free Addr = not is_address_free
own_lines own is_address_free AddressStrobe = is_address_free
own_lines own is_address_free w = own w

-- what its rules read: its own wires, its pins, its row, and what it is given of its master
abbrev pub requester_readings : ℕ → RequesterRow → (Wire → Bool) → Pins → Bool → Readings
requester_readings s row own pins is_address_free = record (readings_of_pins pins) {
  own = own_lines own is_address_free;
  board = Some (record { slot = s; requester = Some row; interrupter = None; handler = no_levels });
}

-- what its rules read, by the state
abbrev pub local : RequesterState → Pins → Bool → Readings
local r pins is_address_free = requester_readings r.slot r.row (low r) pins is_address_free

-- readings that agree with what a requester reads, whatever else they say
pub record SayThePins (row : RequesterRow) (own : Wire → Bool) (pins : Pins)
    (is_address_free : Bool) (r : Readings) : Type 0 where
  pub own_wires : (w : Wire) → is_of parts.Requester w ≡ true → r.own w ≡ own w
  pub address_free : (not (r.own Addr) || r.own AddressStrobe) ≡ is_address_free
  pub requests : (n : ℕ) → r.request n ≡ has_bus_level pins.requests n
  pub grant_in : r.grant_in ≡ pins.grant_in
  pub requester : option_and_then (λ b. b.requester) r.board ≡ Some row

-- the answer to an edge of its own by its rows of the table, read over the edges that were noted
abbrev pub answer_over : ℕ → RequesterRow → Version → List Edge → Pins → Bool → Edge → Judgement
answer_over s row version noted pins is_address_free e =
    ruling version (requester_readings s row (drive noted (Slot s)) pins is_address_free) e
