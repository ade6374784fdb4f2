-- What stands at the front of a text.
use Rattle.std.specs.Prelude.{◌≡◌, ◌==◌, ◌&&◌, ◌+◌, ◌-◌, ℕ, Bool, true, false, List, [], ◌++◌, ◌∷◌, IsTrue, Option, Some, None, option_map, drop, slice_index, codes, if◌then◌else◌}
use Rattle.std.specs.Borrow.{Bor}
use Rattle.std.specs.Int.{is_in_range}
use Rattle.vme_model.specs.declared.signals.Driver.{Driver}
use Rattle.vme_model.specs.declared.signals.Driver.TheVariants.{Controller, Slot}
use Rattle.vme_model.specs.declared.signals.Wire.{Wire}
use Rattle.vme_model.specs.declared.signals.Wire.TheVariants.{Bg, Bclr, Iack, Berr, Br, BgOut, Bbsy, Addr, AddressStrobe, DataStrobe, Irq, IackOut, Dtack}
use Rattle.vme_model.specs.declared.signals.Cycle.{Cycle}
use Rattle.vme_model.specs.declared.signals.Cycle.TheVariants.{Acknowledge, Access}
use Rattle.vme_model.specs.declared.signals.Edge.{Edge}
use Rattle.vme_model.specs.Signals.{is_slot, has_value, is_well_formed}
use Rattle.vme_model.specs.Text.{spelling}

-- the controller, or the board of a slot that a backplane can have
abbrev pub IsDriver : Driver → Type 0
IsDriver Controller = Unit {0}
IsDriver (Slot s) = IsTrue (is_slot s)

-- the line of a well-formed edge stands at the front of a text, before the rest
pub record IsFrontLine (e : Edge) (text rest : List ℕ) : Type 0 where
  pub formed : IsTrue (is_well_formed e)
  pub is : text ≡ (spelling e ++ 10 ∷ []) ++ rest

-- what stands at the front of a text, if it is there, and the rest
abbrev pub First : Type 0 → Type 0
First A = Option (A × List ℕ)

-- what stands at the front of a text, as a function found it
abbrev pub front_of : {A : Type 0} → Option (A × Bor (List ℕ)) → First A
front_of found = option_map (λ p. (p.0, p.1.now)) found

-- these bytes stand in a text, from a place on
abbrev pub stands : List ℕ → ℕ → List ℕ → Bool
stands [] k text = true
stands (b ∷ []) k text = slice_index text k == b
stands (b ∷ bs) k text = slice_index text k == b && stands bs (k + 1) text

-- a driver's name, and a space
unfoldable pub first_driver : List ℕ → First Driver
first_driver text =
    if slice_index text 0 == 99 && slice_index text 1 == 32 then Some (Controller, drop 2 text)
    else if is_in_range 49 57 (slice_index text 0) && slice_index text 1 == 32
    then Some (Slot (slice_index text 0 - 48), drop 2 text)
    else if slice_index text 0 == 49
    && (is_in_range 48 57 (slice_index text 1) && slice_index text 2 == 32)
    then Some (Slot (10 + (slice_index text 1 - 48)), drop 3 text)
    else if slice_index text 0 == 50
    && (is_in_range 48 49 (slice_index text 1) && slice_index text 2 == 32)
    then Some (Slot (20 + (slice_index text 1 - 48)), drop 3 text)
    else None

-- a wire of the controller
unfoldable pub first_control_wire : List ℕ → First Wire
first_control_wire text =
    if slice_index text 0 == 98
    && (slice_index text 1 == 103 && is_in_range 48 51 (slice_index text 2))
    then Some (Bg (slice_index text 2 - 48), drop 3 text)
    else if stands (codes "bclr") 0 text then Some (Bclr, drop 4 text)
    else if stands (codes "iack") 0 text then Some (Iack, drop 4 text)
    else if stands (codes "berr") 0 text then Some (Berr, drop 4 text)
    else None

-- a wire of a board: for its request and hold of the bus, for a transfer, and for an interrupt
unfoldable pub first_bus_wire : List ℕ → First Wire
first_bus_wire text =
    if stands (codes "br") 0 text then Some (Br, drop 2 text)
    else if stands (codes "bgout") 0 text then Some (BgOut, drop 5 text)
    else if stands (codes "bbsy") 0 text then Some (Bbsy, drop 4 text)
    else None

unfoldable pub first_transfer_wire : List ℕ → First Wire
first_transfer_wire text =
    if stands (codes "as") 0 text then Some (AddressStrobe, drop 2 text)
    else if stands (codes "addr") 0 text then Some (Addr, drop 4 text)
    else if stands (codes "ds") 0 text then Some (DataStrobe, drop 2 text)
    else if stands (codes "dtack") 0 text then Some (Dtack, drop 5 text)
    else None

unfoldable pub first_interrupt_wire : List ℕ → First Wire
first_interrupt_wire text =
    if stands (codes "irq") 0 text then Some (Irq, drop 3 text)
    else if stands (codes "iackout") 0 text then Some (IackOut, drop 7 text)
    else None

unfoldable pub first_board_wire : List ℕ → First Wire
first_board_wire text =
    if slice_index text 0 == 98 then first_bus_wire text
    else if slice_index text 0 == 105 then first_interrupt_wire text
    else first_transfer_wire text

-- a wire of a driver
unfoldable pub first_wire : Driver → List ℕ → First Wire
first_wire Controller text = first_control_wire text
first_wire (Slot s) text = first_board_wire text

-- a sign, true for a fall
unfoldable pub first_sign : List ℕ → First Bool
first_sign text =
    if slice_index text 0 == 45 then Some (true, drop 1 text)
    else if slice_index text 0 == 43 then Some (false, drop 1 text)
    else None

-- a level, and a line feed
unfoldable pub first_level : List ℕ → First ℕ
first_level text =
    if is_in_range 49 55 (slice_index text 0) && slice_index text 1 == 10
    then Some (slice_index text 0 - 48, drop 2 text)
    else None

-- a slot, and a line feed
unfoldable pub first_slot : List ℕ → First ℕ
first_slot text =
    if is_in_range 49 57 (slice_index text 0) && slice_index text 1 == 10
    then Some (slice_index text 0 - 48, drop 2 text)
    else if slice_index text 0 == 49
    && (is_in_range 48 57 (slice_index text 1) && slice_index text 2 == 10)
    then Some (10 + (slice_index text 1 - 48), drop 3 text)
    else if slice_index text 0 == 50
    && (is_in_range 48 49 (slice_index text 1) && slice_index text 2 == 10)
    then Some (20 + (slice_index text 1 - 48), drop 3 text)
    else None

-- what is shown, after a space, and a line feed
unfoldable pub first_cycle : List ℕ → First Cycle
first_cycle text =
    if stands (codes " i") 0 text
    then option_map (λ p. (Acknowledge p.0, p.1)) (first_level (drop 2 text))
    else if stands (codes " r") 0 text
    then option_map (λ p. (Access p.0, p.1)) (first_slot (drop 2 text))
    else None

-- no value, and a line feed
unfoldable pub first_end : List ℕ → First (Option Cycle)
first_end text = if slice_index text 0 == 10 then Some (None, drop 1 text) else None

-- what is shown, as the value of an edge
abbrev pub as_value : First Cycle → First (Option Cycle)
as_value found = option_map (λ p. (Some p.0, p.1)) found

-- what an edge of a wire shows, and a line feed
unfoldable pub first_value : Wire → Bool → List ℕ → First (Option Cycle)
first_value wire fall text =
    if has_value wire fall None then first_end text else as_value (first_cycle text)
