-- A master's local state, and what its rules read. A list of noted edges has its newest edge first.
use Rattle.std.specs.Prelude.{◌≡◌, ℕ, Bool, true, false, Some, None, List, min}
use Rattle.std.specs.Option.{option_map_or, option_and_then}
use Rattle.vme_model.specs.declared.boards.RequesterRow.{RequesterRow}
use Rattle.vme_model.specs.declared.boards.Release.{Release}
use Rattle.vme_model.specs.declared.boards.Release.TheVariants.{Done, Request}
use Rattle.vme_model.specs.declared.pins.Pins.{Pins}
use Rattle.vme_model.specs.declared.sets.Levels.{Levels}
use Rattle.vme_model.specs.declared.signals.Driver.TheVariants.{Slot}
use Rattle.vme_model.specs.declared.signals.Wire.{Wire}
use Rattle.vme_model.specs.declared.signals.Wire.TheVariants.{Bbsy, Addr, AddressStrobe, DataStrobe}
use Rattle.vme_model.specs.declared.signals.Edge.{Edge}
use Rattle.vme_model.specs.Sets.{has_level}
use Rattle.vme_model.specs.History.{drive, cycles, has_strobed}
use Rattle.vme_model.specs.Readings.{Readings, readings_of_pins}
use Rattle.vme_model.specs.declared.signals.Part.TheVariants as parts
use Rattle.vme_model.specs.Signals.{is_of}

-- what a master keeps: where it stands, which of its wires are low (the address group: on), its
-- cycles, and its data strobe
pub record MasterState : Type 0 where
  pub slot : ℕ
  pub row : RequesterRow
  pub handler : Levels
  pub addr : Bool
  pub address_strobe : Bool
  pub data_strobe : Bool
  -- its `as-` since its board's last `bbsy-`, as far as they are counted
  pub cycles : ℕ
  -- a `ds-` since its last `as-`
  pub has_strobed : Bool

-- the cycles of a tenure are counted up to an RWD requester's burst, and not at all for ROR
abbrev pub most_cycles : Release → ℕ
most_cycles (Done burst) = burst
most_cycles Request = 0

-- the state after a list of noted edges
abbrev pub master_of : ℕ → RequesterRow → Levels → List Edge → MasterState
master_of s row handler noted = record {
  slot = s;
  row = row;
  handler = handler;
  addr = drive noted (Slot s) Addr;
  address_strobe = drive noted (Slot s) AddressStrobe;
  data_strobe = drive noted (Slot s) DataStrobe;
  cycles = min (cycles noted (Slot s)) (most_cycles row.release);
  has_strobed = has_strobed noted (Slot s);
}

-- the state of the wires, by the local state
abbrev pub low : MasterState → Wire → Bool
low m Addr = m.addr
low m AddressStrobe = m.address_strobe
low m DataStrobe = m.data_strobe
low m _ = false

-- of its requester's wires a master is given one thing: whether its board drives BBSY* low
abbrev pub own_lines : (Wire → Bool) → Bool → Wire → Bool
own_lines own holds_bus Bbsy = holds_bus
own_lines own holds_bus w = own w

-- what its rules read: its own wires, its pins, its board, its cycles, its data strobe, and what it
-- is given of its requester
abbrev pub master_readings :
    ℕ → RequesterRow → Levels → (Wire → Bool) → ℕ → Bool → Pins → Bool → Readings
master_readings s row handler own cycles has_strobed pins holds_bus =
    record (readings_of_pins pins) {
      own = own_lines own holds_bus;
      cycles = cycles;
      has_strobed = has_strobed;
      board = Some (record {
        slot = s;
        requester = Some row;
        interrupter = None;
        handler = handler;
      });
    }

-- what its rules read, by the state
abbrev pub local : MasterState → Pins → Bool → Readings
local m pins holds_bus =
    master_readings m.slot m.row m.handler (low m) m.cycles m.has_strobed pins holds_bus

-- what its rules read, over the edges that were noted
abbrev pub over : ℕ → RequesterRow → Levels → List Edge → Pins → Bool → Readings
over s row handler noted pins holds_bus =
    master_readings s row handler (drive noted (Slot s)) (cycles noted (Slot s))
    (has_strobed noted (Slot s)) pins holds_bus

-- readings that agree with what a master reads, whatever else they say
pub record SayThePins (row : RequesterRow) (handler : Levels) (own : Wire → Bool)
    (cycles : ℕ) (has_strobed : Bool) (pins : Pins) (holds_bus : Bool) (r : Readings) : Type 0 where
  pub own_wires : (w : Wire) → is_of parts.Master w ≡ true → r.own w ≡ own w
  pub bbsy : r.own Bbsy ≡ holds_bus
  pub tenure : r.cycles ≡ cycles
  pub strobed : r.has_strobed ≡ has_strobed
  pub irq : (level : ℕ) → r.irq level ≡ has_level pins.irq level
  pub address_strobe : r.address_strobe ≡ pins.address_strobe
  pub dtack : r.dtack ≡ pins.dtack
  pub berr : r.berr ≡ pins.berr
  pub requester : option_and_then (λ b. b.requester) r.board ≡ Some row
  pub handles : (level : ℕ) →
      option_map_or (λ b. has_level b.handler level) r.board false ≡ has_level handler level
