-- What a rule may read just before an edge. (Profile: each rule reads the wires as they are before
-- its edge.)
use Rattle.std.specs.Prelude.{◌==◌, ◌&&◌, ℕ, Bool, false, not, Option, None, List, is_some}
use Rattle.std.specs.Option.{option_map_or, option_and_then}
use Rattle.vme_model.specs.declared.boards.Row.{Row}
use Rattle.vme_model.specs.declared.boards.ArbiterKind.{ArbiterKind}
use Rattle.vme_model.specs.declared.boards.ArbiterKind.TheVariants.{Sgl}
use Rattle.vme_model.specs.declared.pins.Pins.{Pins}
use Rattle.vme_model.specs.declared.sets.ChainId.TheVariants as chain
use Rattle.vme_model.specs.declared.signals.Driver.{Driver}
use Rattle.vme_model.specs.declared.signals.Driver.TheVariants.{Controller, Slot}
use Rattle.vme_model.specs.declared.signals.Wire.{Wire}
use Rattle.vme_model.specs.declared.signals.Wire.TheVariants.{Berr, Bbsy, AddressStrobe, DataStrobe, Irq, Dtack}
use Rattle.vme_model.specs.declared.signals.Cycle.{Cycle}
use Rattle.vme_model.specs.declared.signals.Edge.{Edge}
use Rattle.vme_model.specs.Sets.{has_bus_level, has_level}
use Rattle.vme_model.specs.Plan.{Plan, board_of, grant_chain}
use Rattle.vme_model.specs.History.{drive, line, request_line, interrupt_line, input, shown, served_since_request, last_level, cycles, has_strobed}

-- the acting driver's own wires and edges, its board, and the lines; true means low, and for the
-- address group on
pub record Readings : Type 0 where
  pub own : Wire → Bool
  -- BR0* to BR3*, and IRQ1* to IRQ7*
  pub request : ℕ → Bool
  pub irq : ℕ → Bool
  pub bbsy : Bool
  pub address_strobe : Bool
  pub data_strobe : Bool
  pub dtack : Bool
  pub berr : Bool
  pub shown : Option Cycle
  pub grant_in : Bool
  pub iack_in : Bool
  pub last_level : ℕ
  -- own `as-` since the last own `bbsy-`
  pub cycles : ℕ
  -- an own `ds-` since the last own `as-`
  pub has_strobed : Bool
  -- an own answer of the kind that serves the interrupter since the last own `irq-`
  pub served_since_request : Bool
  pub arbiter : ArbiterKind
  pub board : Option Row

-- what the pins alone give: no wire of the driver's own is low, it made no edge, it has no board,
-- and the arbiter is SGL
abbrev pub readings_of_pins : Pins → Readings
readings_of_pins pins = record {
  own = λ w. false;
  request = has_bus_level pins.requests;
  irq = has_level pins.irq;
  bbsy = pins.bbsy;
  address_strobe = pins.address_strobe;
  data_strobe = pins.data_strobe;
  dtack = pins.dtack;
  berr = pins.berr;
  shown = pins.shown;
  grant_in = pins.grant_in;
  iack_in = pins.iack_in;
  last_level = 0;
  cycles = 0;
  has_strobed = false;
  served_since_request = false;
  arbiter = Sgl;
  board = None;
}

-- the input of the board's own grant chain, for a board with a requester (chapter 3)
abbrev pub grant_in : Plan → List Edge → Driver → Bool
grant_in p h d =
    option_map_or
    (λ r. option_map_or (λ q. input p h (grant_chain q.level) r.slot) r.requester false)
    (board_of p d) false

-- the input of the acknowledge chain, for a board with an interrupter (chapter 4)
abbrev pub iack_in : Plan → List Edge → Driver → Bool
iack_in p h d =
    option_map_or (λ r. is_some r.interrupter && input p h chain.Iack r.slot) (board_of p d) false

-- the board's interrupter was served since it last requested
abbrev pub is_served : Plan → List Edge → Driver → Bool
is_served p h d =
    option_map_or (λ r. option_map_or (λ i. served_since_request p h d i.kind) r.interrupter false)
    (board_of p d) false

-- what a driver's rules read after a history
abbrev pub readings : Plan → List Edge → Driver → Readings
readings p h d = record {
  own = drive h d;
  request = request_line p h;
  irq = interrupt_line p h;
  bbsy = line p h Bbsy;
  address_strobe = line p h AddressStrobe;
  data_strobe = line p h DataStrobe;
  dtack = line p h Dtack;
  berr = drive h Controller Berr;
  shown = shown p h;
  grant_in = grant_in p h d;
  iack_in = iack_in p h d;
  last_level = last_level h;
  cycles = cycles h d;
  has_strobed = has_strobed h d;
  served_since_request = is_served p h d;
  arbiter = p.arbiter;
  board = board_of p d;
}

-- the board's interrupter requests at the level: it has that level, its request is low, and it has
-- not been served since (chapter 4)
abbrev pub is_pending : Readings → ℕ → Bool
is_pending r level =
    option_map_or (λ i. i.level == level) (option_and_then (λ b. b.interrupter) r.board) false
    && r.own Irq
    && not r.served_since_request

-- slot s is pending at the level after a history
abbrev pub pending : Plan → List Edge → ℕ → ℕ → Bool
pending p h s level = is_pending (readings p h (Slot s)) level
