-- How the interrupt requests stand, by looking back through the list of edges, and when sets say
-- so. (A request that was served is low until its board lets go of it: chapter 4.) A list has its
-- newest edge first; sets are given by whether the request of a slot's board may stand so.
use Rattle.std.specs.Prelude.{◌≡◌, ◌≢◌, ◌<◌, ℕ, Bool, true, false, List, is_some}
use Rattle.std.specs.Option.{option_map_or}
use Rattle.vme_model.specs.declared.signals.Driver.TheVariants.{Slot}
use Rattle.vme_model.specs.declared.signals.Wire.TheVariants.{Irq}
use Rattle.vme_model.specs.declared.signals.Edge.{Edge}
use Rattle.vme_model.specs.Plan.{Plan, board, interrupts_on}
use Rattle.vme_model.specs.History.{drive, interrupt_line}
use Rattle.vme_model.specs.Readings.{is_served}
use Rattle.vme_bus.specs.declared.sets.SlotSet.{SlotSet}
use Rattle.vme_bus.specs.Sets.{has}
use Rattle.vme_standings.specs.declared.requests.Request.{Request}
use Rattle.vme_standings.specs.declared.requests.Request.TheVariants.{High, Pending, Served}

-- by whether the board pulls its line, and whether it was served since
abbrev pub request_by : Bool → Bool → Request
request_by false served = High
request_by true false = Pending
request_by true true = Served

-- how the request of the slot's board stands
abbrev pub request_of : Plan → List Edge → ℕ → Request
request_of p h s = request_by (drive h (Slot s) Irq) (is_served p h (Slot s))

-- the slot's board has an interrupter
abbrev pub is_interrupter : Plan → ℕ → Bool
is_interrupter p s = option_map_or (λ r. is_some r.interrupter) (board p s) false

-- it has one of that level
abbrev pub is_on_level : Plan → ℕ → ℕ → Bool
is_on_level p n s = option_map_or (interrupts_on n) (board p s) false

-- the sets cover the bus: each request stands in one of the ways in which it may
abbrev pub CoversRequests : Plan → List Edge → (ℕ → Request → Bool) → Type 0
CoversRequests p h may =
    (s : ℕ) → is_interrupter p s ≡ true → may s (request_of p h s) ≡ true

-- the edges that no probe sees are in the sets: under a low line one that is served may rise if
-- another board has the line, and one that is high may fall
pub record HasHidden (p : Plan) (h : List Edge) (may : ℕ → Request → Bool) : Type 0 where
  pub rises : (n s t : ℕ) → is_on_level p n s ≡ true → is_on_level p n t ≡ true → t ≢ s
      → interrupt_line p h n ≡ true → may s Served ≡ true → may s High ≡ true
  pub falls : (n s : ℕ) → is_on_level p n s ≡ true
      → interrupt_line p h n ≡ true → may s High ≡ true → may s Pending ≡ true

-- a slot of a backplane made the edge, and this is so of it
pub record IsBy (e : Edge) (P : ℕ → Type 0) : Type 0 where
  pub slot : ℕ
  pub positive : 0 < slot
  pub near : slot < 22
  pub driver : e.driver ≡ Slot slot
  pub fact : P slot

-- the set says of each board with an interrupter whether its line is low
abbrev pub AreLow : Plan → List Edge → SlotSet → Type 0
AreLow p h low = (n s : ℕ) → is_on_level p n s ≡ true → has low s ≡ interrupt_line p h n

-- the set holds each board that shares its line with another
abbrev pub AreShared : Plan → SlotSet → Type 0
AreShared p shared =
    (n s t : ℕ) → is_on_level p n s ≡ true → is_on_level p n t ≡ true → t ≢ s → has shared s ≡ true

-- the set holds exactly the boards on the line of the level
abbrev pub AreOnLevel : Plan → ℕ → SlotSet → Type 0
AreOnLevel p n boards = (s : ℕ) → has boards s ≡ is_on_level p n s

-- the slot's board may answer an acknowledge of the level
pub record MayAnswer (p : Plan) (n : ℕ) (may : ℕ → Request → Bool) (s : ℕ) : Type 0 where
  pub on : is_on_level p n s ≡ true
  pub pending : may s Pending ≡ true
