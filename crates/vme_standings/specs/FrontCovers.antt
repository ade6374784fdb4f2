-- How the daisy chain of an acknowledge stands, by looking back through the list of edges, and when
-- `Fronts` says so. (Chapter 4: the controller begins it, and each board with an interrupter passes
-- it on or answers.) A list has its newest edge first.
use Rattle.std.specs.Prelude.{◌≡◌, ◌⊎◌, ℕ, true, false, Option, Some, None, List, nat_le}
use Rattle.vme_model.specs.declared.sets.ChainId.TheVariants.{Iack}
use Rattle.vme_model.specs.declared.signals.Cycle.TheVariants.{Acknowledge}
use Rattle.vme_model.specs.declared.signals.Driver.TheVariants.{Controller, Slot}
use Rattle.vme_model.specs.declared.signals.Wire.TheVariants.{AddressStrobe, DataStrobe, Dtack}
use Rattle.vme_model.specs.declared.signals.Edge.{Edge}
use Rattle.vme_model.specs.Plan.{Plan, last_active, head_wire, out_wire}
use Rattle.vme_model.specs.History.{line, segment, shown, interrupt_line}
use Rattle.vme_model.specs.Settling.{is_chain_clear}
use Rattle.vme_bus.specs.declared.sets.SlotSet.{SlotSet}
use Rattle.vme_bus.specs.Sets.{has}
use Rattle.vme_captures.specs.declared.signals.Pin.{Pin}
use Rattle.vme_captures.specs.declared.signals.Segment.{Segment}
use Rattle.vme_captures.specs.Wires.{pin_on}
use Rattle.vme_standings.specs.declared.fronts.Fronts.{Fronts}
use Rattle.vme_standings.specs.declared.requests.Requests.{Requests}
use Rattle.vme_standings.specs.Requests.{is_interrupter, is_on_level, AreOnLevel}
use Rattle.vme_standings.specs.RequestSets.{CannotPass}
use Rattle.vme_standings.specs.Fronts.{place_of, input_place}

-- The acknowledge has come to the place: the controller's segment is low, and of the boards with an
-- interrupter exactly those up to that place have passed it on. The place is 0, which is the
-- controller's, or the slot of such a board.
pub record HasComeTo (p : Plan) (h : List Edge) (place : ℕ) : Type 0 where
  pub exists : (place ≡ 0) ⊎ (is_interrupter p place ≡ true)
  pub begun : segment h Iack None ≡ true
  pub passed : (s : ℕ) → is_interrupter p s ≡ true → segment h Iack (Some s) ≡ nat_le s place

-- The set covers the bus: while AS* is low, either the whole chain is high and the set may be
-- waiting, or the acknowledge has come to a place that the set has. (While AS* is high it says
-- nothing.)
abbrev pub CoversFronts : Plan → List Edge → Fronts → Type 0
CoversFronts p h f =
    line p h AddressStrobe ≡ true
    → ((is_chain_clear p h Iack ≡ true) × (f.waiting ≡ true))
    ⊎ ((place : ℕ) × HasComeTo p h place × (has f.ends place ≡ true))

-- an acknowledge of the level is under way: it is shown and strobed, and nobody has answered it
pub record IsUnderWay (p : Plan) (h : List Edge) (n : ℕ) : Type 0 where
  pub shows : shown p h ≡ Some (Acknowledge n)
  pub strobed : line p h DataStrobe ≡ true
  pub unanswered : line p h Dtack ≡ false

-- the slot's board may pass an acknowledge of the level on: it has no interrupter of that level, or
-- one whose request may stand so that it does not answer
abbrev pub PassesOn : Plan → List Edge → ℕ → Requests → ℕ → Type 0
PassesOn p h n d s =
    (boards : SlotSet) → is_on_level p n s ≡ true → AreOnLevel p n boards
    → CannotPass s boards (interrupt_line p h n) d → ⊥

-- a segment of the acknowledge chain: the controller's, or that of the slot's board
abbrev pub acknowledge_segment : Option ℕ → Segment
acknowledge_segment driver = record { chain = Iack; place = driver }

-- no probe is on it
abbrev pub IsUnprobed : Plan → List Pin → Option ℕ → Type 0
IsUnprobed p pins driver = pin_on p pins (acknowledge_segment driver) ≡ None

-- the edges of the chain that no probe sees are in the set: the controller begins the acknowledge,
-- and a board that it has reached passes it on if it may
pub record HasHiddenFronts
    (p : Plan) (pins : List Pin) (h : List Edge) (d : Requests) (f : Fronts)
    : Type 0 where
  pub begins : (n : ℕ) → IsUnderWay p h n → IsUnprobed p pins None
      → f.waiting ≡ true → has f.ends 0 ≡ true
  pub passes : (n s : ℕ) → IsUnderWay p h n → is_interrupter p s ≡ true
      → IsUnprobed p pins (Some s) → PassesOn p h n d s
      → has f.ends (input_place p s) ≡ true → has f.ends s ≡ true

-- the set has the place of each segment without a probe
pub record HasUnprobed (p : Plan) (pins : List Pin) (unseen : SlotSet) : Type 0 where
  pub controller : IsUnprobed p pins None → has unseen 0 ≡ true
  pub boards : (s : ℕ) → is_interrupter p s ≡ true → IsUnprobed p pins (Some s)
      → has unseen s ≡ true

-- the set has each board that may pass an acknowledge of the level on
abbrev pub HasPassing : Plan → List Edge → ℕ → Requests → SlotSet → Type 0
HasPassing p h n d passing =
    (s : ℕ) → is_interrupter p s ≡ true → PassesOn p h n d s → has passing s ≡ true

-- an edge of that segment
abbrev pub IsOfSegment : Edge → Option ℕ → Type 0
IsOfSegment e None = (e.driver ≡ Controller) × (e.wire ≡ head_wire Iack)
IsOfSegment e (Some s) = (e.driver ≡ Slot s) × (e.wire ≡ out_wire Iack)

-- the place of the chain's last segment
abbrev pub last_place : Plan → ℕ
last_place p = place_of (last_active p Iack)
