-- A controller's local state, and what its rules read. A list of noted edges has its newest edge
-- first.
use Rattle.std.specs.Prelude.{◌≡◌, ◌==◌, if◌then◌else◌, ℕ, Bool, true, false, Option, List}
use Rattle.std.specs.Option.{option_map_or}
use Rattle.vme_model.specs.declared.boards.ArbiterKind.{ArbiterKind}
use Rattle.vme_model.specs.declared.boards.ArbiterKind.TheVariants.{Pri}
use Rattle.vme_model.specs.declared.pins.Pins.{Pins}
use Rattle.vme_model.specs.declared.signals.Version.{Version}
use Rattle.vme_model.specs.declared.signals.Driver.TheVariants.{Controller}
use Rattle.vme_model.specs.declared.signals.Wire.{Wire}
use Rattle.vme_model.specs.declared.signals.Wire.TheVariants.{Bg, Bclr, Iack, Berr}
use Rattle.vme_model.specs.declared.signals.Edge.{Edge}
use Rattle.vme_model.specs.Signals.{has_wire}
use Rattle.vme_model.specs.Sets.{has_bus_level}
use Rattle.vme_model.specs.History.{drive, last_level}
use Rattle.vme_model.specs.Readings.{Readings, readings_of_pins}

-- what a controller keeps: its kind, the version of its rules, which of its wires are low, and the
-- level last granted
pub record ControllerState : Type 0 where
  pub kind : ArbiterKind
  pub version : Version
  pub bg0 : Bool
  pub bg1 : Bool
  pub bg2 : Bool
  pub bg3 : Bool
  pub bclr : Bool
  pub iack : Bool
  pub berr : Bool
  pub last_level : ℕ

-- the state after a list of noted edges
abbrev pub controller_of : ArbiterKind → Version → List Edge → ControllerState
controller_of kind version noted = record {
  kind = kind;
  version = version;
  bg0 = drive noted Controller (Bg 0);
  bg1 = drive noted Controller (Bg 1);
  bg2 = drive noted Controller (Bg 2);
  bg3 = drive noted Controller (Bg 3);
  bclr = drive noted Controller Bclr;
  iack = drive noted Controller Iack;
  berr = drive noted Controller Berr;
  last_level = last_level noted;
}

-- the state of the wires, by the local state
abbrev pub low : ControllerState → Wire → Bool
low c (Bg n) =
    if n == 0 then c.bg0
    else (if n == 1 then c.bg1 else (if n == 2 then c.bg2 else (if n == 3 then c.bg3 else false)))
low c Bclr = c.bclr
low c Iack = c.iack
low c Berr = c.berr
low c _ = false

-- what its rules read: its own wires, its pins, its kind, and the level last granted
abbrev pub controller_readings : ArbiterKind → (Wire → Bool) → ℕ → Pins → Readings
controller_readings kind own last_level pins = record (readings_of_pins pins) {
  own = own;
  last_level = last_level;
  arbiter = kind;
}

-- what its rules read, by the state
abbrev pub local : ControllerState → Pins → Readings
local c pins = controller_readings c.kind (low c) c.last_level pins

-- what its rules read, over the edges that were noted
abbrev pub over : ArbiterKind → List Edge → Pins → Readings
over kind noted pins = controller_readings kind (drive noted Controller) (last_level noted) pins

-- what its rules read, with a policy's own pick in place of its kind's: priority picks it if
-- nothing else is requested
abbrev pub over_pick : Option ℕ → List Edge → Pins → Readings
over_pick picked noted pins =
    record (over Pri noted pins) { request = λ n. option_map_or (λ m. m == n) picked false }

-- readings that agree with what a controller reads, whatever else they say
pub record SayThePins
    (kind : ArbiterKind) (own : Wire → Bool) (last_level : ℕ) (pins : Pins) (r : Readings)
    : Type 0 where
  pub own_wires : (w : Wire) → has_wire Controller w ≡ true → r.own w ≡ own w
  pub arbiter : r.arbiter ≡ kind
  pub last : r.last_level ≡ last_level
  pub requests : (n : ℕ) → r.request n ≡ has_bus_level pins.requests n
  pub bbsy : r.bbsy ≡ pins.bbsy
  pub address_strobe : r.address_strobe ≡ pins.address_strobe
  pub data_strobe : r.data_strobe ≡ pins.data_strobe
  pub dtack : r.dtack ≡ pins.dtack
  pub shown : r.shown ≡ pins.shown
