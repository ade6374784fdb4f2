-- What is known behind each change that somebody may have made, part by part.
use Rattle.std.specs.Prelude.{◌≡◌, ◌≢◌, ◌<◌, ◌≤◌, ◌==◌, ◌&&◌, ◌||◌, if◌then◌else◌, ℕ, Bool, true, false, Option, Some, None, unwrap_or}
use Rattle.vme_model.specs.declared.sets.ChainId.{ChainId}
use Rattle.vme_model.specs.declared.signals.Cycle.TheVariants as cycle
use Rattle.vme_model.specs.declared.signals.Version.{Version}
use Rattle.vme_model.specs.Signals.{is_two}
use Rattle.vme_model.specs.Plan.{Plan}
use Rattle.vme_bus.specs.declared.sets.SlotSet.{SlotSet}
use Rattle.vme_bus.specs.Sets.{has}
use Rattle.vme_captures.specs.declared.levels.Levels.{Levels}
use Rattle.vme_captures.specs.declared.signals.Change.{Change}
use Rattle.vme_captures.specs.declared.signals.Line.{Line}
use Rattle.vme_captures.specs.declared.signals.Line.TheVariants as line
use Rattle.vme_captures.specs.declared.signals.Pin.{Pin}
use Rattle.vme_captures.specs.declared.signals.Signal.{Signal}
use Rattle.vme_captures.specs.declared.signals.Signal.TheVariants as signal
use Rattle.vme_captures.specs.declared.signals.Value.{Value}
use Rattle.vme_captures.specs.declared.signals.Value.TheVariants as value
use Rattle.vme_captures.specs.Levels.{is_line_left_low}
use Rattle.vme_captures.specs.Signals.{is_same_chain}
use Rattle.vme_captures.specs.Wires.{wire_of}
use Rattle.vme_standings.specs.declared.fronts.Fronts.{Fronts}
use Rattle.vme_standings.specs.declared.interrupters.Interrupters.TheVariants.{Roak, Rora}
use Rattle.vme_standings.specs.declared.moving.Moved.{Moved}
use Rattle.vme_standings.specs.declared.moving.Moved.TheVariants as moved
use Rattle.vme_standings.specs.declared.phases.GrantPhases.{GrantPhases}
use Rattle.vme_standings.specs.declared.requests.Requests.{Requests}
use Rattle.vme_standings.specs.declared.segments.Segments.{Segments}
use Rattle.vme_standings.specs.declared.standings.Probed.{Probed}
use Rattle.vme_standings.specs.declared.standings.Shown.{Shown}
use Rattle.vme_standings.specs.declared.standings.Shown.TheVariants as shown
use Rattle.vme_standings.specs.declared.standings.Standings.{Standings}
use Rattle.vme_standings.specs.Boards.{only_board}
use Rattle.vme_standings.specs.Driving.{AreAnswerers, AreAskers, AreStarters, last_place}
use Rattle.vme_standings.specs.Fronts.{EndsAt, IsWaiting, Reaches, may_fall_at}
use Rattle.vme_standings.specs.GrantChains.{is_of_level}
use Rattle.vme_standings.specs.Grants.{IsBehindRequest, are_alike, behind_grant, behind_pass, behind_release, behind_rise, behind_take, is_clear_due}
use Rattle.vme_standings.specs.Interrupters.{is_meant_at, is_on_low_line}
use Rattle.vme_standings.specs.Moving.{asked, moved_by}
use Rattle.vme_standings.specs.Phases.{HasExactly, HoldsBits, has_phase, is_held_by}
use Rattle.vme_standings.specs.RequestSets.{Accessed, Acknowledged, AnyAccessed, CannotPass, Falls, Passes, Rises}
use Rattle.vme_standings.specs.Requests.{AreOnLevel, is_on_level}
use Rattle.vme_standings.specs.Segments.{has_segment}

-- the line is at that level, and the others are as before
pub record SetsLine (l : Line) (low : Bool) (old new : Levels) : Type 0 where
  pub set : is_line_left_low new l ≡ low
  pub others : (k : Line) → k ≢ l → is_line_left_low new k ≡ is_line_left_low old k

abbrev pub LinesBehind : Signal → Bool → Levels → Levels → Type 0
LinesBehind (signal.Line l) fall old new = SetsLine l fall old new
LinesBehind (signal.Pin q) fall old new = new ≡ old

-- the wire of the pin is at that level
abbrev pub SetsWire : Plan → Pin → Bool → Segments → Segments → Type 0
SetsWire p q low old new =
    (c : ChainId) (place : ℕ) → has_segment new c place
    ≡ (if is_same_chain c q.chain && (place == unwrap_or (wire_of p q).place 0) then low
    else has_segment old c place)

abbrev pub LowBehind : Plan → Signal → Bool → Segments → Segments → Type 0
LowBehind p (signal.Line l) fall old new = new ≡ old
LowBehind p (signal.Pin q) fall old new = SetsWire p q fall old new

-- what a fall of AS* shows
abbrev pub shown_of : Option Value → Option Shown
shown_of (Some (value.Shown (cycle.Acknowledge n))) = Some (shown.Acknowledge n)
shown_of (Some (value.Shown (cycle.Access s))) = Some (shown.Access (Some s))
shown_of (Some value.Access) = Some (shown.Access None)
shown_of _ = None

abbrev pub shown_behind : Moved → Bool → Option Value → Option Shown → Option Shown
shown_behind (moved.Line line.AddressStrobe) true v old = shown_of v
shown_behind (moved.Line line.AddressStrobe) false v old = None
shown_behind _ _ v old = old

abbrev pub strobed_behind : Moved → Bool → Bool → Bool
strobed_behind (moved.Line line.AddressStrobe) true old = false
strobed_behind (moved.Line line.DataStrobe) true old = true
strobed_behind _ _ old = old

-- a segment of the grant chain falls: the controller's, or that of a board
pub record GrantFalls (p : Plan) (version : Version) (st : Standings) (c place : ℕ)
    (new : GrantPhases) : Type 0 where
  pub granted : place ≡ 0 → HasExactly new (behind_grant p (asked st.lines) c st.phases)
  pub passed : 0 < place → HasExactly new (behind_pass p version c place st.phases)

-- the grants and BBSY*
abbrev pub PhasesBehind : Plan → Version → Standings → Moved → Bool → Option Value → GrantPhases
    → Type 0
PhasesBehind p version st (moved.Line (line.Br n)) true v new =
    (boards : SlotSet) × AreAskers p n st.phases boards × IsBehindRequest boards st.phases new
PhasesBehind p version st (moved.Line (line.Br n)) false v new =
    HasExactly new (λ q. (is_two version || is_held_by (is_of_level p n) q)
    && has_phase st.phases q)
PhasesBehind p version st (moved.Line line.Bbsy) true v new =
    HasExactly new (behind_take p (asked st.lines) st.phases)
PhasesBehind p version st (moved.Line line.Bbsy) false v new =
    HasExactly new (behind_release p (asked st.lines) st.phases)
-- who showed a cycle holds the bus
PhasesBehind p version st (moved.Line line.AddressStrobe) true v new =
    (boards : SlotSet) × AreStarters p st v boards
    × HasExactly new (λ q. is_held_by (has boards) q && has_phase st.phases q)
PhasesBehind p version st (moved.Line line.Bclr) fall v new =
    HasExactly new (λ q.
    has_phase st.phases q && are_alike (is_clear_due p (asked st.lines) q) fall)
PhasesBehind p version st (moved.Grant c place) true v new = GrantFalls p version st c place new
PhasesBehind p version st (moved.Grant c place) false v new =
    HasExactly new (behind_rise p version c place st.phases)
PhasesBehind p version st _ _ v new = new ≡ st.phases

-- who drives AS*
abbrev pub AddressersBehind : Plan → Standings → Moved → Bool → Option Value → SlotSet → Type 0
AddressersBehind p st (moved.Line line.AddressStrobe) true v new = AreStarters p st v new
AddressersBehind p st (moved.Line line.AddressStrobe) false v new = (s : ℕ) → has new s ≡ false
AddressersBehind p st _ _ v new = new ≡ st.addressers

-- who drives DTACK*
abbrev pub AnswerersBehind : Plan → Standings → Moved → Bool → Option Value → SlotSet → Type 0
AnswerersBehind p st (moved.Line line.Dtack) true v new = AreAnswerers p st v new
AnswerersBehind p st (moved.Line line.Dtack) false v new = (s : ℕ) → has new s ≡ false
AnswerersBehind p st _ _ v new = new ≡ st.answerers

-- how far the acknowledge is behind an answer: at who answers
abbrev pub FrontsAnswered : Plan → Standings → Option Value → Option Shown → Fronts → Type 0
FrontsAnswered p st v (Some (shown.Acknowledge n)) new =
    (boards : SlotSet) × AreAnswerers p st v boards × Reaches p boards new
FrontsAnswered p st v _ new = new ≡ st.fronts

-- behind BERR* of the controller: past all interrupters
abbrev pub FrontsTimedOut : Plan → Standings → Option Shown → Fronts → Type 0
FrontsTimedOut p st (Some (shown.Acknowledge n)) new = EndsAt (last_place p) new
FrontsTimedOut p st _ new = new ≡ st.fronts

-- behind a fall of a segment of its chain: at that segment, if it may fall
pub record FrontsPassed (p : Plan) (place : ℕ) (old new : Fronts) : Type 0 where
  pub able : may_fall_at old p place ≡ true → EndsAt place new
  pub unable : may_fall_at old p place ≡ false → new ≡ old

abbrev pub FrontsBehind : Plan → Standings → Moved → Bool → Option Value → Fronts → Type 0
FrontsBehind p st (moved.Line line.AddressStrobe) true v new = IsWaiting new
FrontsBehind p st (moved.Line line.Dtack) true v new = FrontsAnswered p st v st.shown new
FrontsBehind p st (moved.Line line.Berr) true v new = FrontsTimedOut p st st.shown new
FrontsBehind p st (moved.Acknowledge place) true v new = FrontsPassed p place st.fronts new
FrontsBehind p st _ _ v new = new ≡ st.fronts

-- the boards with a RORA interrupter, and those with a ROAK one
abbrev pub AreRora : Plan → SlotSet → Type 0
AreRora p set = (s : ℕ) → has set s ≡ is_meant_at Rora p s

abbrev pub AreRoak : Plan → SlotSet → Type 0
AreRoak p set = (s : ℕ) → has set s ≡ is_meant_at Roak p s

-- the board in the slot answered an access
pub record ServedByAccess (p : Plan) (t : ℕ) (old new : Requests) : Type 0 where
  pub near : t < 22 → (rora : SlotSet) × AreRora p rora × Accessed t rora old new
  pub far : 22 ≤ t → new ≡ old

-- some board answered an access, of a slot that is known or not
abbrev pub ServedIn : Plan → Option ℕ → Requests → Requests → Type 0
ServedIn p (Some t) old new = ServedByAccess p t old new
ServedIn p None old new = (rora : SlotSet) × AreRora p rora × AnyAccessed rora old new

-- the slot that is accessed: a board that is alone is it also if the slot is not known
abbrev pub target_of : Plan → Option ℕ → Option ℕ
target_of p (Some t) = Some t
target_of p None = only_board p.rows

-- the interrupt requests behind an answer
abbrev pub RequestsAnswered : Plan → Standings → Option Value → Option Shown → Requests → Type 0
RequestsAnswered p st v (Some (shown.Access t)) new = ServedIn p (target_of p t) st.requests new
RequestsAnswered p st v (Some (shown.Acknowledge n)) new =
    (boards roak : SlotSet) × AreAnswerers p st v boards × AreRoak p roak
    × Acknowledged boards roak st.requests new
RequestsAnswered p st v None new = new ≡ st.requests

-- behind a fall of the slot's segment of the acknowledge chain: if its board is of the
-- acknowledge's level, its request is not pending
pub record PassedAt (p : Plan) (lines : Levels) (n s : ℕ) (old new : Requests) : Type 0 where
  pub boards : SlotSet
  pub level : AreOnLevel p n boards
  pub other : is_on_level p n s ≡ false → new ≡ old
  pub able : is_on_level p n s ≡ true → (CannotPass s boards (is_on_low_line lines p s) old → ⊥)
      → Passes s boards (is_on_low_line lines p s) old new
  pub unable : is_on_level p n s ≡ true → CannotPass s boards (is_on_low_line lines p s) old
      → new ≡ old

abbrev pub RequestsPassed : Plan → Standings → ℕ → Option Shown → Requests → Type 0
RequestsPassed p st place (Some (shown.Acknowledge n)) new =
    PassedAt p st.lines n place st.requests new
RequestsPassed p st place _ new = new ≡ st.requests

-- the interrupt requests
abbrev pub RequestsBehind : Plan → Standings → Moved → Bool → Option Value → Requests → Type 0
RequestsBehind p st (moved.Line (line.Irq n)) true v new =
    (boards : SlotSet) × AreOnLevel p n boards × Falls boards st.requests new
RequestsBehind p st (moved.Line (line.Irq n)) false v new =
    (boards : SlotSet) × AreOnLevel p n boards × Rises boards st.requests new
RequestsBehind p st (moved.Line line.Dtack) true v new = RequestsAnswered p st v st.shown new
RequestsBehind p st (moved.Acknowledge place) true v new = RequestsPassed p st place st.shown new
RequestsBehind p st _ _ v new = new ≡ st.requests

-- all parts, behind the change
pub record IsBehind (p : Plan) (probed : Probed) (old : Standings) (c : Change)
    (new : Standings) : Type 0 where
  pub lines : LinesBehind c.signal c.fall old.lines new.lines
  pub low : LowBehind p c.signal c.fall old.low new.low
  pub shown : new.shown ≡ shown_behind (moved_by p c.signal) c.fall c.value old.shown
  pub strobed : new.strobed ≡ strobed_behind (moved_by p c.signal) c.fall old.strobed
  pub phases : PhasesBehind p probed.version old (moved_by p c.signal) c.fall c.value new.phases
  pub bits : HoldsBits new.phases
  pub addressers : AddressersBehind p old (moved_by p c.signal) c.fall c.value new.addressers
  pub answerers : AnswerersBehind p old (moved_by p c.signal) c.fall c.value new.answerers
  pub fronts : FrontsBehind p old (moved_by p c.signal) c.fall c.value new.fronts
  pub requests : RequestsBehind p old (moved_by p c.signal) c.fall c.value new.requests
