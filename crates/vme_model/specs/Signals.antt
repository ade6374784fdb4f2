-- Which drivers, wires and edges there are. (Std 1014, chapters 2 to 4; one edge as the atomic step
-- is this project's profile.)
use Rattle.std.specs.Prelude.{◌==◌, ◌&&◌, not, ℕ, Bool, true, false, Option, Some, None, nat_lt, nat_le}
use Rattle.vme_model.specs.declared.signals.Version.{Version}
use Rattle.vme_model.specs.declared.signals.Version.TheVariants.{One, Two}
use Rattle.vme_model.specs.declared.signals.Driver.{Driver}
use Rattle.vme_model.specs.declared.signals.Driver.TheVariants.{Controller, Slot}
use Rattle.vme_model.specs.declared.signals.Part.{Part}
use Rattle.vme_model.specs.declared.signals.Part.TheVariants as part
use Rattle.vme_model.specs.declared.signals.Wire.{Wire}
use Rattle.vme_model.specs.declared.signals.Wire.TheVariants.{Bg, Bclr, Iack, Berr, Br, BgOut, Bbsy, Addr, AddressStrobe, DataStrobe, Irq, IackOut, Dtack}
use Rattle.vme_model.specs.declared.signals.Cycle.{Cycle}
use Rattle.vme_model.specs.declared.signals.Cycle.TheVariants.{Acknowledge, Access}
use Rattle.vme_model.specs.declared.signals.Edge.{Edge}

-- whether this is the second version of the rules (profile)
abbrev pub is_two : Version → Bool
is_two One = false
is_two Two = true

-- the two are the same driver
abbrev pub is_same_driver : Driver → Driver → Bool
is_same_driver Controller Controller = true
is_same_driver (Slot s) (Slot t) = s == t
is_same_driver _ _ = false

-- the two are the same wire of a driver; grants of two levels are two wires
abbrev pub is_same_wire : Wire → Wire → Bool
is_same_wire (Bg m) (Bg n) = m == n
is_same_wire Bclr Bclr = true
is_same_wire Iack Iack = true
is_same_wire Berr Berr = true
is_same_wire Br Br = true
is_same_wire BgOut BgOut = true
is_same_wire Bbsy Bbsy = true
is_same_wire Addr Addr = true
is_same_wire AddressStrobe AddressStrobe = true
is_same_wire DataStrobe DataStrobe = true
is_same_wire Irq Irq = true
is_same_wire IackOut IackOut = true
is_same_wire Dtack Dtack = true
is_same_wire _ _ = false

-- an edge of that driver on that wire
abbrev pub is_edge_of : Driver → Wire → Edge → Bool
is_edge_of d w e = is_same_wire e.wire w && is_same_driver e.driver d

-- a fall of that driver on that wire
abbrev pub is_fall_of : Driver → Wire → Edge → Bool
is_fall_of d w e = e.fall && is_edge_of d w e

-- one of the controller's grants, BG0* to BG3* (chapter 3)
abbrev pub is_grant_wire : Wire → Bool
is_grant_wire (Bg level) = true
is_grant_wire _ = false

-- a fall of one of the controller's grants (chapter 3)
abbrev pub is_grant : Edge → Bool
is_grant e = e.fall && is_grant_wire e.wire

-- the level of a grant; 0 for other wires
abbrev pub grant_level : Wire → ℕ
grant_level (Bg level) = level
grant_level _ = 0

-- a backplane has at most 21 slots (chapter 7)
abbrev pub is_slot : ℕ → Bool
is_slot s = nat_le 1 s && nat_le s 21

-- IRQ1* to IRQ7* (chapter 4)
abbrev pub is_level : ℕ → Bool
is_level level = nat_le 1 level && nat_le level 7

-- the part that drives a wire: the controller, or a part of a board (chapters 2 to 4)
abbrev pub part_of : Wire → Part
part_of (Bg level) = part.Controller
part_of Bclr = part.Controller
part_of Iack = part.Controller
part_of Berr = part.Controller
part_of Br = part.Requester
part_of BgOut = part.Requester
part_of Bbsy = part.Requester
part_of Addr = part.Master
part_of AddressStrobe = part.Master
part_of DataStrobe = part.Master
part_of Irq = part.Interrupter
part_of IackOut = part.Interrupter
part_of Dtack = part.Interrupter

-- the two are the same part
abbrev pub is_same_part : Part → Part → Bool
is_same_part part.Controller part.Controller = true
is_same_part part.Requester part.Requester = true
is_same_part part.Master part.Master = true
is_same_part part.Interrupter part.Interrupter = true
is_same_part _ _ = false

-- that part drives the wire
abbrev pub is_of : Part → Wire → Bool
is_of p w = is_same_part p (part_of w)

-- which wires the controller and a board have
abbrev pub has_wire : Driver → Wire → Bool
has_wire Controller (Bg level) = nat_lt level 4
has_wire Controller w = is_of part.Controller w
has_wire (Slot s) w = not (is_of part.Controller w) && is_slot s

-- a driver's number: 0 for the controller, and otherwise its slot
abbrev pub driver_number : Driver → ℕ
driver_number Controller = 0
driver_number (Slot s) = s

-- a wire's number is its place among all wires, from 0: bg0 to bg3, bclr, iack, berr, br, ..
abbrev pub wire_number : Wire → ℕ
wire_number (Bg level) = level
wire_number Bclr = 4
wire_number Iack = 5
wire_number Berr = 6
wire_number Br = 7
wire_number BgOut = 8
wire_number Bbsy = 9
wire_number Addr = 10
wire_number AddressStrobe = 11
wire_number DataStrobe = 12
wire_number Irq = 13
wire_number IackOut = 14
wire_number Dtack = 15

-- an acknowledge, of any level (chapter 4)
abbrev pub is_acknowledge : Option Cycle → Bool
is_acknowledge (Some (Acknowledge level)) = true
is_acknowledge _ = false

-- a level as in chapter 4, or a slot as in chapter 7
abbrev pub is_in_range : Cycle → Bool
is_in_range (Acknowledge level) = is_level level
is_in_range (Access s) = is_slot s

-- the edge has a value exactly if it is a fall of the address group (profile)
abbrev pub has_value : Wire → Bool → Option Cycle → Bool
has_value Addr true (Some cycle) = is_in_range cycle
has_value Addr true None = false
has_value _ _ None = true
has_value _ _ (Some _) = false

-- an edge that some backplane can have (profile)
abbrev pub is_well_formed : Edge → Bool
is_well_formed e = has_wire e.driver e.wire && has_value e.wire e.fall e.value
