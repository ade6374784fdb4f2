-- An interrupter's local state, and what its rules read. A list of noted edges has its newest edge
-- first.
use Rattle.std.specs.Prelude.{◌≡◌, ◌==◌, ◌&&◌, ◌||◌, if◌then◌else◌, ℕ, Bool, true, false, Option, Some, None, List, [], ◌∷◌, map}
use Rattle.std.specs.Option.{option_map_or, option_and_then}
use Rattle.vme_model.specs.declared.boards.InterrupterRow.{InterrupterRow}
use Rattle.vme_model.specs.declared.pins.Pins.{Pins}
use Rattle.vme_model.specs.declared.signals.Driver.{Driver}
use Rattle.vme_model.specs.declared.signals.Driver.TheVariants.{Slot}
use Rattle.vme_model.specs.declared.signals.Wire.{Wire}
use Rattle.vme_model.specs.declared.signals.Wire.TheVariants.{Irq, IackOut, Dtack}
use Rattle.vme_model.specs.declared.signals.Cycle.{Cycle}
use Rattle.vme_model.specs.declared.signals.Edge.{Edge}
use Rattle.vme_model.specs.declared.signals.Part.TheVariants as parts
use Rattle.vme_model.specs.Signals.{is_fall_of, is_of}
use Rattle.vme_model.specs.Sets.{no_levels}
use Rattle.vme_model.specs.Plan.{Plan}
use Rattle.vme_model.specs.History.{drive, serves, shown}
use Rattle.vme_model.specs.Readings.{Readings, readings_of_pins}

-- what `note` is given: an edge, and what was shown just before it
abbrev pub Noted : Type 0
Noted = Edge × Option Cycle

abbrev pub edges : List Noted → List Edge
edges noted = map (λ n. n.0) noted

-- an answer while this is shown serves the board's interrupter, if it has one
abbrev pub serves_board : Option InterrupterRow → Option Cycle → Bool
serves_board row cycle = option_map_or (λ i. serves i.kind cycle) row false

-- since its last `irq-` the board gave an answer that serves its interrupter
abbrev pub served : List Noted → Driver → Option InterrupterRow → Bool
served [] d row = false
served (n ∷ noted) d row =
    if is_fall_of d Irq n.0 then false
    else (is_fall_of d Dtack n.0 && serves_board row n.1) || served noted d row

-- what an interrupter keeps: where it stands, which of its wires are low, and whether its request
-- was served
pub record InterrupterState : Type 0 where
  pub slot : ℕ
  pub row : Option InterrupterRow
  pub irq : Bool
  pub iackout : Bool
  pub dtack : Bool
  pub is_served : Bool

-- the state after a list of noted edges
abbrev pub interrupter_of : ℕ → Option InterrupterRow → List Noted → InterrupterState
interrupter_of s row noted = record {
  slot = s;
  row = row;
  irq = drive (edges noted) (Slot s) Irq;
  iackout = drive (edges noted) (Slot s) IackOut;
  dtack = drive (edges noted) (Slot s) Dtack;
  is_served = served noted (Slot s) row;
}

-- the state of the wires, by the local state
abbrev pub low : InterrupterState → Wire → Bool
low i Irq = i.irq
low i IackOut = i.iackout
low i Dtack = i.dtack
low i _ = false

-- what its rules read: its own wires, whether it was served, its pins, and its row
abbrev pub interrupter_readings : ℕ → Option InterrupterRow → (Wire → Bool) → Bool → Pins → Readings
interrupter_readings s row own is_served pins = record (readings_of_pins pins) {
  own = own;
  served_since_request = is_served;
  board = Some (record { slot = s; requester = None; interrupter = row; handler = no_levels });
}

-- what its rules read, by the state
abbrev pub local : InterrupterState → Pins → Readings
local i pins = interrupter_readings i.slot i.row (low i) i.is_served pins

-- what its rules read, over the edges that were noted
abbrev pub over : ℕ → Option InterrupterRow → List Noted → Pins → Readings
over s row noted pins =
    interrupter_readings s row (drive (edges noted) (Slot s)) (served noted (Slot s) row) pins

-- readings that agree with what an interrupter reads, whatever else they say
pub record SayThePins (s : ℕ) (row : Option InterrupterRow) (own : Wire → Bool)
    (is_served : Bool) (pins : Pins) (r : Readings) : Type 0 where
  pub own_wires : (w : Wire) → is_of parts.Interrupter w ≡ true → r.own w ≡ own w
  pub served : r.served_since_request ≡ is_served
  pub address_strobe : r.address_strobe ≡ pins.address_strobe
  pub data_strobe : r.data_strobe ≡ pins.data_strobe
  pub shown : r.shown ≡ pins.shown
  pub iack_in : r.iack_in ≡ pins.iack_in
  pub slot : (t : ℕ) → option_map_or (λ b. b.slot == t) r.board false ≡ (s == t)
  pub interrupter : option_and_then (λ b. b.interrupter) r.board ≡ row

-- a history as an interrupter notes it if it is given each edge
abbrev pub seen : Plan → List Edge → List Noted
seen p [] = []
seen p (e ∷ h) = (e, shown p h) ∷ seen p h
