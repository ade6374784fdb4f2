-- The numbers that C uses for a version and an edge.
use Rattle.std.specs.Prelude.{◌==◌, ◌-◌, ◌/◌, ◌%◌, ◌^◌, ℕ, Bool, true, false, Option, Some, None, if◌then◌else◌}
use Rattle.std.specs.List.{slice_get}
use Rattle.vme_model.specs.declared.signals.Version.{Version}
use Rattle.vme_model.specs.declared.signals.Version.TheVariants.{One, Two}
use Rattle.vme_model.specs.declared.signals.Driver.{Driver}
use Rattle.vme_model.specs.declared.signals.Driver.TheVariants.{Controller, Slot}
use Rattle.vme_model.specs.declared.signals.Wire.{Wire}
use Rattle.vme_model.specs.declared.signals.Cycle.{Cycle}
use Rattle.vme_model.specs.declared.signals.Cycle.TheVariants.{Acknowledge, Access}
use Rattle.vme_model.specs.declared.signals.Edge.{Edge}
use Rattle.vme_model.specs.Signals.{is_slot, is_level}
use Rattle.vme_model.specs.Text.{all_wires}

-- the two versions of the rules by their own numbers
abbrev pub version_of_number : ℕ → Option Version
version_of_number n = if n == 1 then Some One else (if n == 2 then Some Two else None)

-- 0 is the controller, and 1 to 21 the board of that slot
abbrev pub driver_of_number : ℕ → Option Driver
driver_of_number n =
    if n == 0 then Some Controller else (if is_slot n then Some (Slot n) else None)

-- a wire's number is its place among all wires, from 0: bg0 to bg3, bclr, iack, berr, br, ..
abbrev pub wire_of_number : ℕ → Option Wire
wire_of_number n = slice_get all_wires n

-- 0 is a rise, and 1 a fall
abbrev pub fall_of_number : ℕ → Option Bool
fall_of_number n = if n == 0 then Some false else (if n == 1 then Some true else None)

-- 0 is no value, 1 to 7 an acknowledge of that level, and 32 + t an access to slot t
abbrev pub value_of_number : ℕ → Option (Option Cycle)
value_of_number n =
    if n == 0 then Some None
    else (if is_level n then Some (Some (Acknowledge n))
    else (if is_slot (n - 32) then Some (Some (Access (n - 32))) else None))

-- an edge of these parts, if all of them are known
abbrev pub edge_of_parts :
    Option Driver → Option Wire → Option Bool → Option (Option Cycle) → Option Edge
edge_of_parts (Some d) (Some w) (Some fall) (Some v) =
    Some (record { driver = d; wire = w; fall = fall; value = v })
edge_of_parts _ _ _ _ = None

-- the edge that four numbers name, if they name one
abbrev pub edge_of_numbers : ℕ → ℕ → ℕ → ℕ → Option Edge
edge_of_numbers driver wire fall value = edge_of_parts (driver_of_number driver)
    (wire_of_number wire) (fall_of_number fall) (value_of_number value)

-- the edge of one word, from the top: its driver, its wire, 1 for a fall, and its value, a byte
-- each
abbrev pub edge_of_word : ℕ → Option Edge
edge_of_word n = edge_of_numbers (n / 2 ^ 24) (n / 2 ^ 16 % 256) (n / 2 ^ 8 % 256) (n % 256)
