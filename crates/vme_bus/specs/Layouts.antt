-- What a plan says of each slot and line, as numbers.
use Rattle.std.specs.Prelude.{◌≡◌, ◌==◌, ◌&&◌, ◌+◌, ◌<◌, ℕ, Bool, true, false, Option, Some, None, List, option_map, is_some, length, get_or}
use Rattle.std.specs.List.{slice_get}
use Rattle.std.specs.Option.{option_and_then, option_map_or}
use Rattle.vme_model.specs.declared.boards.Row.{Row}
use Rattle.vme_model.specs.declared.sets.ChainId.TheVariants as chain
use Rattle.vme_model.specs.Plan.{Plan, board, grant_chain, upstream, last_active, requests_on, interrupts_on}
use Rattle.vme_bus.specs.declared.layouts.Input.{Input}
use Rattle.vme_bus.specs.declared.layouts.Input.TheVariants as input
use Rattle.vme_bus.specs.declared.layouts.Line.{Line}
use Rattle.vme_bus.specs.declared.layouts.Line.TheVariants as line
use Rattle.vme_bus.specs.declared.records.Seat.{Seat}
use Rattle.vme_bus.specs.declared.records.SeatRecord.{SeatRecord}
use Rattle.vme_bus.specs.declared.layouts.Layout.{Layout}
use Rattle.vme_bus.specs.declared.sets.SlotSet.{SlotSet}
use Rattle.vme_bus.specs.Sets.{has}
use Rattle.vme_bus.specs.Records.{seat_in}

-- Where a chain's controller stands in the set of its low segments: the heads of the four grants
-- stand from 24 on, and that of the acknowledge at 24, behind every slot.
abbrev pub grant_head : ℕ → ℕ
grant_head level = 24 + level

abbrev pub acknowledge_head : ℕ
acknowledge_head = 24

-- the place of a segment: the controller's, or that of the slot that drives it
abbrev pub place_of : ℕ → Option ℕ → ℕ
place_of head None = head
place_of head (Some s) = s

-- the place of a board's input on its grant chain; 0 if it has no requester
abbrev pub grant_source : Plan → Row → ℕ
grant_source p r =
    option_map_or (λ q. place_of (grant_head q.level) (upstream p (grant_chain q.level) r.slot))
    r.requester 0

-- a board, and the places of its inputs
abbrev pub seat_of : Plan → Row → Seat
seat_of p r = record {
  row = r;
  grant_source = grant_source p r;
  acknowledge_source = place_of acknowledge_head (upstream p chain.Iack r.slot);
}

-- the seat in a place, if there is one
abbrev pub seat : List SeatRecord → ℕ → Option Seat
seat seats s = option_and_then seat_in (slice_get seats s)

-- the board can pull the line
abbrev pub is_on : Line → Row → Bool
is_on (line.Request level) r = requests_on level r
is_on (line.Interrupt level) r = interrupts_on level r
is_on line.AnyRequest r = is_some r.requester
is_on line.AnyInterrupt r = is_some r.interrupter
is_on line.DataAcknowledge r = true

abbrev pub slot_is_on : Plan → Line → ℕ → Bool
slot_is_on p l s = option_map_or (is_on l) (board p s) false

-- a set holds the slots whose boards can pull the line
abbrev pub HoldsLine : Plan → Line → SlotSet → Type 0
HoldsLine p l set = (s : ℕ) → has set s ≡ slot_is_on p l s

-- a board has the input, and it stands at the place
abbrev pub is_input_at : Input → ℕ → Seat → Bool
is_input_at input.Grant place x = is_some x.row.requester && x.grant_source == place
is_input_at input.Acknowledge place x = is_some x.row.interrupter && x.acknowledge_source == place

-- a set holds the slots whose boards have the input at the place
abbrev pub HoldsInputs : Input → List SeatRecord → ℕ → SlotSet → Type 0
HoldsInputs i seats place set =
    (s : ℕ) → has set s ≡ option_map_or (is_input_at i place) (seat seats s) false

-- a set at a place; beyond the end an empty one
abbrev pub set_at : List SlotSet → ℕ → SlotSet
set_at sets n = get_or sets n (record { bits = 0 })

-- sets hold those slots, each at its place
pub record HoldInputs (i : Input) (seats : List SeatRecord) (sets : List SlotSet) : Type 0 where
  pub room : length sets ≡ 28
  pub each : (n : ℕ) → n < 28 → HoldsInputs i seats n (set_at sets n)

pub record IsLayoutOf (p : Plan) (l : Layout) : Type 0 where
  pub seats : (s : ℕ) → seat l.seats s ≡ option_map (seat_of p) (board p s)
  pub requests_room : length l.requests ≡ 4
  pub interrupts_room : length l.interrupts ≡ 8
  pub ends_room : length l.grant_ends ≡ 4
  pub requests : (n : ℕ) → n < 4 → HoldsLine p (line.Request n) (set_at l.requests n)
  pub interrupts : (n : ℕ) → n < 8 → HoldsLine p (line.Interrupt n) (set_at l.interrupts n)
  pub grant_ends : (n : ℕ) → n < 4
      → get_or l.grant_ends n 0 ≡ place_of (grant_head n) (last_active p (grant_chain n))
  pub acknowledge_end : l.acknowledge_end ≡ place_of acknowledge_head (last_active p chain.Iack)
  pub slots : l.slots ≡ p.slots
  pub requesters : HoldsLine p line.AnyRequest l.requesters
  pub interrupters : HoldsLine p line.AnyInterrupt l.interrupters
  pub boards : HoldsLine p line.DataAcknowledge l.boards
  pub granted_by : HoldInputs input.Grant l.seats l.granted_by
  pub acknowledged_by : HoldInputs input.Acknowledge l.seats l.acknowledged_by
