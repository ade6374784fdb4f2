-- What a list of edges says about the wires, by looking back through it. (The lines and chains are
-- those of chapters 2 to 4; that wires have a state between edges, and no times, is this project's
-- profile.) A history has its newest edge first, so `e ∷ h` is h with e made after it; `in_order h`
-- is the order of time.
use Rattle.std.specs.Prelude.{◌&&◌, ◌||◌, ◌+◌, ℕ, Bool, true, false, if◌then◌else◌, Option, Some, None, List, [], ◌∷◌, find, reverse}
use Rattle.std.specs.List.{list_any}
use Rattle.std.specs.Option.{option_and_then}
use Rattle.vme_model.specs.declared.boards.Row.{Row}
use Rattle.vme_model.specs.declared.boards.IrqKind.{IrqKind}
use Rattle.vme_model.specs.declared.boards.IrqKind.TheVariants.{Roak, Rora}
use Rattle.vme_model.specs.declared.sets.ChainId.{ChainId}
use Rattle.vme_model.specs.declared.signals.Driver.{Driver}
use Rattle.vme_model.specs.declared.signals.Driver.TheVariants.{Controller, Slot}
use Rattle.vme_model.specs.declared.signals.Wire.{Wire}
use Rattle.vme_model.specs.declared.signals.Wire.TheVariants.{Br, Bbsy, Addr, AddressStrobe, DataStrobe, Irq, Dtack}
use Rattle.vme_model.specs.declared.signals.Cycle.{Cycle}
use Rattle.vme_model.specs.declared.signals.Cycle.TheVariants.{Acknowledge, Access}
use Rattle.vme_model.specs.declared.signals.Edge.{Edge}
use Rattle.vme_model.specs.Signals.{is_edge_of, is_fall_of, is_grant, grant_level}
use Rattle.vme_model.specs.Plan.{Plan, upstream, last_active, up_to, requests_on, interrupts_on, drives, head_wire, out_wire}

-- the edges in the order of time, in which places, logs, texts and deliveries are counted
abbrev pub in_order : List Edge → List Edge
in_order h = reverse h

-- low, or for the address group on: the driver's last edge on the wire is a fall; at power-up all
-- wires are high or off (profile)
abbrev pub drive : List Edge → Driver → Wire → Bool
drive [] d w = false
drive (e ∷ h) d w = if is_edge_of d w e then e.fall else drive h d w

-- a board pulls an open-collector line low
abbrev pub pulls_line : List Edge → Wire → Row → Bool
pulls_line h w r = drives w r && drive h (Slot r.slot) w

-- an open-collector line is low if some board pulls it low (chapters 2 and 3)
abbrev pub line : Plan → List Edge → Wire → Bool
line p h w = list_any (pulls_line h w) p.rows

-- BRn*, of the requesters of level n (chapter 3)
abbrev pub pulls_request : List Edge → ℕ → Row → Bool
pulls_request h n r = requests_on n r && drive h (Slot r.slot) Br

abbrev pub request_line : Plan → List Edge → ℕ → Bool
request_line p h n = list_any (pulls_request h n) p.rows

-- IRQn*, of the interrupters of level n (chapter 4)
abbrev pub pulls_interrupt : List Edge → ℕ → Row → Bool
pulls_interrupt h n r = interrupts_on n r && drive h (Slot r.slot) Irq

abbrev pub interrupt_line : Plan → List Edge → ℕ → Bool
interrupt_line p h n = list_any (pulls_interrupt h n) p.rows

-- a segment of a daisy chain: what the controller drives at its head, or an active slot at its
-- output (chapters 3 and 4)
abbrev pub segment : List Edge → ChainId → Option ℕ → Bool
segment h c None = drive h Controller (head_wire c)
segment h c (Some s) = drive h (Slot s) (out_wire c)

-- a slot's input: the segment of the greatest active slot below it, or the controller's (chapters 3
-- and 4)
abbrev pub input : Plan → List Edge → ChainId → ℕ → Bool
input p h c s = segment h c (upstream p c s)

-- the chain's last segment is low: the last board that works the chain has passed it on
abbrev pub is_past_end : Plan → List Edge → ChainId → Bool
is_past_end p h c = segment h c (last_active p c)

-- the value of a driver's last edge on its address group
abbrev pub last_value : List Edge → Driver → Option Cycle
last_value [] d = None
last_value (e ∷ h) d = if is_edge_of d Addr e then e.value else last_value h d

-- the least slot whose address group is on
abbrev pub addressing : Plan → List Edge → Option ℕ
addressing p h = find (λ s. drive h (Slot s) Addr) (up_to p.slots)

-- the value of the address group that is on (chapters 2 and 4)
abbrev pub shown : Plan → List Edge → Option Cycle
shown p h = option_and_then (λ s. last_value h (Slot s)) (addressing p h)

-- an answer while this is shown serves an interrupter of this kind: ROAK an acknowledge, RORA an
-- access (chapter 4). (`serves` of Rules speaks of arbiters instead.)
abbrev pub serves : IrqKind → Option Cycle → Bool
serves Roak (Some (Acknowledge level)) = true
serves Rora (Some (Access s)) = true
serves _ _ = false

-- since its last `irq-` the board gave an answer that serves an interrupter of this kind (profile)
abbrev pub served_since_request : Plan → List Edge → Driver → IrqKind → Bool
served_since_request p [] d kind = false
served_since_request p (e ∷ h) d kind =
    if is_fall_of d Irq e then false
    else (is_fall_of d Dtack e && serves kind (shown p h)) || served_since_request p h d kind

-- the level last granted; 0 at power-up (profile)
abbrev pub last_level : List Edge → ℕ
last_level [] = 0
last_level (e ∷ h) = if is_grant e then grant_level e.wire else last_level h

-- the cycles that a board began since its last `bbsy-`, each by an `as-` (profile)
abbrev pub cycles : List Edge → Driver → ℕ
cycles [] d = 0
cycles (e ∷ h) d =
    if is_fall_of d Bbsy e then 0
    else (if is_fall_of d AddressStrobe e then 1 else 0) + cycles h d

-- the board made a `ds-` since its last `as-` (profile)
abbrev pub has_strobed : List Edge → Driver → Bool
has_strobed [] d = false
has_strobed (e ∷ h) d =
    if is_fall_of d AddressStrobe e then false
    else is_fall_of d DataStrobe e || has_strobed h d
