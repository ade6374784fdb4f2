-- What is known of the bus with all edges that no probe sees, part by part.
use Rattle.std.specs.Prelude.{◌≡◌, ◌<◌, ◌&&◌, not, ℕ, Bool, true, false, Option, Some}
use Rattle.vme_model.specs.declared.sets.BusLevels.{BusLevels}
use Rattle.vme_model.specs.Plan.{Plan}
use Rattle.vme_bus.specs.declared.sets.SlotSet.{SlotSet}
use Rattle.vme_bus.specs.Sets.{has}
use Rattle.vme_captures.specs.declared.levels.Levels.{Levels}
use Rattle.vme_captures.specs.declared.signals.Line.TheVariants as line
use Rattle.vme_standings.specs.declared.fronts.Fronts.{Fronts}
use Rattle.vme_standings.specs.declared.interrupters.Interrupters.TheVariants.{All}
use Rattle.vme_standings.specs.declared.phases.GrantPhase.{GrantPhase}
use Rattle.vme_standings.specs.declared.phases.GrantPhases.{GrantPhases}
use Rattle.vme_standings.specs.declared.requests.Requests.{Requests}
use Rattle.vme_standings.specs.declared.standings.Probed.{Probed}
use Rattle.vme_standings.specs.declared.standings.Shown.{Shown}
use Rattle.vme_standings.specs.declared.standings.Shown.TheVariants as shown
use Rattle.vme_standings.specs.declared.standings.Standings.{Standings}
use Rattle.vme_standings.specs.Driving.{MayPass, is_left_low}
use Rattle.vme_standings.specs.Fronts.{MovesFronts}
use Rattle.vme_standings.specs.Interrupters.{SharesLine, is_meant_at, is_on_low_line}
use Rattle.vme_standings.specs.Moving.{asked}
use Rattle.vme_standings.specs.Phases.{HoldsBits, has_phase}
use Rattle.vme_standings.specs.RequestSets.{MovesUnseen}
use Rattle.vme_standings.specs.Requests.{AreOnLevel, AreShared}
use Rattle.vme_standings.specs.Slots.{EachSlot}
use Rattle.vme_standings.specs.Unseen.{IsReached, has_row_for, leads}

-- the set holds exactly the boards whose interrupt line is low
abbrev pub AreOnLowLines : Plan → Levels → SlotSet → Type 0
AreOnLowLines p lines set = (s : ℕ) → has set s ≡ is_on_low_line lines p s

-- it holds exactly the boards that share their interrupt line
pub record AreSharing (p : Plan) (set : SlotSet) : Type 0 where
  pub all : AreShared p set
  pub only : (s : ℕ) → has set s ≡ true → SharesLine p s

-- interrupt requests may rise and fall under a line that stays low
pub record HidesRequests (p : Plan) (lines : Levels) (old new : Requests) : Type 0 where
  pub low : SlotSet
  pub shared : SlotSet
  pub low_are : AreOnLowLines p lines low
  pub shared_are : AreSharing p shared
  pub moves : MovesUnseen low shared old new

-- the boards with an interrupter that may pass the acknowledge of the level on
pub record ArePassing (p : Plan) (lines : Levels) (n : ℕ) (d : Requests)
    (set : SlotSet) : Type 0 where
  pub boards : SlotSet
  pub low : SlotSet
  pub boards_are : AreOnLevel p n boards
  pub low_are : AreOnLowLines p lines low
  pub able : EachSlot (λ s. is_meant_at All p s ≡ true → MayPass boards low d s (has set s))
  pub others : (s : ℕ) → is_meant_at All p s ≡ false → has set s ≡ false

-- the places of segments without a probe
abbrev pub AreUnseen : SlotSet → SlotSet → Type 0
AreUnseen probed unseen = (s : ℕ) → s < 22 → has unseen s ≡ not (has probed s)

-- the acknowledge of the level may come further
pub record HidesFronts (p : Plan) (probed : Probed) (st : Standings) (n : ℕ)
    (old new : Fronts) : Type 0 where
  pub unseen : SlotSet
  pub passing : SlotSet
  pub unseen_are : AreUnseen probed.segments.acknowledge unseen
  pub passing_are : ArePassing p st.lines n st.requests passing
  pub moves : MovesFronts p unseen passing old new

-- the fronts, once the requests have moved: while this is shown, and an answer may come or not
abbrev pub FrontsHidden : Plan → Probed → Standings → Option Shown → Bool → Fronts → Type 0
FrontsHidden p probed st (Some (shown.Acknowledge n)) true new =
    HidesFronts p probed st n st.fronts new
FrontsHidden p probed st _ _ new = new ≡ st.fronts

-- DS* is low and DTACK* is high
abbrev pub is_waited_for : Standings → Bool
is_waited_for st = is_left_low st line.DataStrobe && not (is_left_low st line.Dtack)

-- the grants may move: to exactly the phases to which edges lead that no probe sees
pub record HidesPhases (p : Plan) (probed : Probed) (requests : BusLevels)
    (old new : GrantPhases) : Type 0 where
  pub kept : (q : GrantPhase) → has_row_for q ≡ true → has_phase old q ≡ true
      → has_phase new q ≡ true
  pub closed : (q r : GrantPhase) → has_row_for q ≡ true
      → leads p probed.version requests probed.segments.grants q r ≡ true
      → has_phase new q ≡ true → has_phase new r ≡ true
  pub only : (q : GrantPhase) → has_row_for q ≡ true → has_phase new q ≡ true
      → IsReached p probed.version requests probed.segments.grants old q
  pub bits : HoldsBits new

-- all parts, with the edges that no probe sees
pub record HasMoved (p : Plan) (probed : Probed) (old new : Standings) : Type 0 where
  pub lines : new.lines ≡ old.lines
  pub low : new.low ≡ old.low
  pub shown : new.shown ≡ old.shown
  pub strobed : new.strobed ≡ old.strobed
  pub addressers : new.addressers ≡ old.addressers
  pub answerers : new.answerers ≡ old.answerers
  pub phases : HidesPhases p probed (asked old.lines) old.phases new.phases
  pub requests : HidesRequests p old.lines old.requests new.requests
  pub fronts : FrontsHidden p probed (record old { requests = new.requests }) old.shown
      (is_waited_for old) new.fronts
