-- Who may have made each change, by what is known before it.
use Rattle.std.specs.Prelude.{◌≡◌, ◌<◌, ◌==◌, ◌&&◌, ◌||◌, ◌↔◌, not, ℕ, Bool, true, false, Option, Some, None, IsTrue, is_some, length, nat_lt}
use Rattle.std.specs.List.{list_any}
use Rattle.vme_model.specs.declared.sets.BusLevels.{BusLevels}
use Rattle.vme_model.specs.declared.signals.Version.{Version}
use Rattle.vme_model.specs.Signals.{is_two}
use Rattle.vme_model.specs.Plan.{Plan, active, board, grant_chain}
use Rattle.vme_bus.specs.declared.sets.SlotSet.{SlotSet}
use Rattle.vme_bus.specs.Sets.{has}
use Rattle.vme_captures.specs.declared.levels.Levels.{Levels}
use Rattle.vme_captures.specs.declared.signals.Change.{Change}
use Rattle.vme_captures.specs.declared.signals.Line.{Line}
use Rattle.vme_captures.specs.declared.signals.Line.TheVariants as line
use Rattle.vme_captures.specs.declared.signals.Value.{Value}
use Rattle.vme_captures.specs.declared.signals.Value.TheVariants as value
use Rattle.vme_captures.specs.Levels.{is_line_left_low}
use Rattle.vme_standings.specs.declared.fronts.Fronts.{Fronts}
use Rattle.vme_standings.specs.declared.interrupters.Interrupters.TheVariants.{WithStatus}
use Rattle.vme_standings.specs.declared.moving.Moved.{Moved}
use Rattle.vme_standings.specs.declared.moving.Moved.TheVariants as moved
use Rattle.vme_standings.specs.declared.phases.GrantPhase.{GrantPhase}
use Rattle.vme_standings.specs.declared.phases.GrantPhase.TheVariants.{Held}
use Rattle.vme_standings.specs.declared.phases.GrantPhases.{GrantPhases}
use Rattle.vme_standings.specs.declared.requests.Request.TheVariants.{Pending}
use Rattle.vme_standings.specs.declared.requests.Requests.{Requests}
use Rattle.vme_standings.specs.declared.standings.Drivers.{Drivers}
use Rattle.vme_standings.specs.declared.standings.Probed.{Probed}
use Rattle.vme_standings.specs.declared.standings.Shown.{Shown}
use Rattle.vme_standings.specs.declared.standings.Shown.TheVariants as shown
use Rattle.vme_standings.specs.declared.standings.Standings.{Standings}
use Rattle.vme_standings.specs.Cycles.{may_show_at}
use Rattle.vme_standings.specs.Fronts.{input_place, is_reached}
use Rattle.vme_standings.specs.GrantChains.{is_of_level}
use Rattle.vme_standings.specs.Grants.{are_alike, can_release, is_clear_due, is_granted, is_let_go, is_passed, is_run_out, is_taken}
use Rattle.vme_standings.specs.Interrupters.{is_meant_at, is_on_low_line}
use Rattle.vme_standings.specs.Moving.{asked, moved_by}
use Rattle.vme_standings.specs.Phases.{has_phase, is_held_by, is_in_table}
use Rattle.vme_standings.specs.RequestSets.{may_be, CannotPass, MayRise}
use Rattle.vme_standings.specs.Requests.{is_on_level, AreOnLevel}
use Rattle.vme_standings.specs.Slots.{EachSlot}

-- the shared line is low
abbrev pub is_left_low : Standings → Line → Bool
is_left_low st l = is_line_left_low st.lines l

-- the set holds no slot
abbrev pub is_no_slot : SlotSet → Bool
is_no_slot set = set.bits == 0

-- the slot of a board that drives the segment: it is not the controller's
abbrev pub is_board_at : ℕ → ℕ → Bool
is_board_at place s = nat_lt 0 place && (s == place)

-- who may have made a fall of BRn*: a board of the level that does not hold the bus in some phase
pub record AreAskers (p : Plan) (n : ℕ) (phases : GrantPhases) (boards : SlotSet) : Type 0 where
  pub some : (s : ℕ) → has boards s ≡ true → (is_of_level p n s ≡ true)
      × ((q : GrantPhase) × (has_phase phases q ≡ true) × (is_held_by (λ b. b == s) q ≡ false))
  pub all : (s : ℕ) (q : GrantPhase) → s < 22 → is_in_table q ≡ true → is_of_level p n s ≡ true
      → has_phase phases q ≡ true → is_held_by (λ b. b == s) q ≡ false → has boards s ≡ true

-- a rise of BRn*: in the first version a board of the level that may hold the bus, and in the
-- second any of the level
pub record AreWithdrawers (p : Plan) (version : Version) (n : ℕ) (phases : GrantPhases)
    (boards : SlotSet) : Type 0 where
  pub two : is_two version ≡ true → (s : ℕ) → has boards s ≡ is_of_level p n s
  pub some : is_two version ≡ false → (s : ℕ) → has boards s ≡ true →
      (is_of_level p n s ≡ true) × ((first : ℕ) × (has_phase phases (Held s first) ≡ true))
  pub all : is_two version ≡ false → (s first : ℕ) → s < 22 → is_of_level p n s ≡ true
      → has_phase phases (Held s first) ≡ true → has boards s ≡ true

-- a rise of IRQn*: a board of the line that may be served, while all others of it may be high
pub record AreRisers (p : Plan) (n : ℕ) (d : Requests) (boards : SlotSet) : Type 0 where
  pub line : SlotSet
  pub level : AreOnLevel p n line
  pub able : EachSlot (λ s. IsTrue (has boards s) ↔ MayRise line d s)

-- the board may show what was seen with a fall of AS*
abbrev pub may_show_value : Plan → Option Value → ℕ → Bool
may_show_value p (Some (value.Shown v)) s = may_show_at v p s
may_show_value p (Some value.Access) s = true
may_show_value p _ s = false

-- a fall of AS*: a holder that may show it, while no probed pin of the acknowledge chain is low
pub record AreStarters (p : Plan) (st : Standings) (v : Option Value)
    (boards : SlotSet) : Type 0 where
  pub some : (s : ℕ) → has boards s ≡ true → (is_no_slot st.low.acknowledge ≡ true)
      × (may_show_value p v s ≡ true) × (s < 22)
      × ((first : ℕ) × (has_phase st.phases (Held s first) ≡ true))
  pub all : (s first : ℕ) → is_no_slot st.low.acknowledge ≡ true → may_show_value p v s ≡ true
      → s < 22 → has_phase st.phases (Held s first) ≡ true → has boards s ≡ true

-- DS* may fall: AS* is low, DTACK* and BERR* are high, and DS* has not fallen since
abbrev pub can_strobe : Standings → Bool
can_strobe st =
    is_some st.shown && not (is_left_low st line.Dtack) && not (is_left_low st line.Berr)
    && not st.strobed

-- DS* may rise: the cycle is answered
abbrev pub is_answered : Standings → Bool
is_answered st = is_left_low st line.Dtack || is_left_low st line.Berr

-- AS* may rise: DS* fell since it fell, and is high
abbrev pub can_end : Standings → Bool
can_end st = st.strobed && not (is_left_low st line.DataStrobe)

-- the board may answer an acknowledge of the level with what was seen
abbrev pub may_answer_with : Plan → ℕ → Option Value → ℕ → Bool
may_answer_with p n None s = is_on_level p n s
may_answer_with p n (Some (value.Status b)) s = is_on_level p n s && is_meant_at (WithStatus b) p s
may_answer_with p n _ s = false

-- a fall of DTACK* while this is shown: with a byte only in an acknowledge, by an interrupter of
-- its level that it may have reached, that may be pending, and whose byte that is; in an access
-- without a byte, by the board in the slot, or by any board if the slot is not known and BERR* is
-- high
abbrev pub AnswersShown : Plan → Standings → Option Value → Option Shown → SlotSet → Type 0
AnswersShown p st v (Some (shown.Access (Some t))) boards =
    (s : ℕ) → has boards s
    ≡ ((is_left_low st line.DataStrobe && not (is_some v)) && ((s == t) && is_some (board p s)))
AnswersShown p st v (Some (shown.Access None)) boards =
    (s : ℕ) → has boards s
    ≡ ((is_left_low st line.DataStrobe && not (is_some v))
    && (not (is_left_low st line.Berr) && is_some (board p s)))
AnswersShown p st v (Some (shown.Acknowledge n)) boards =
    (s : ℕ) → has boards s
    ≡ (is_left_low st line.DataStrobe
    && (may_be st.requests s Pending && (is_reached st.fronts p s && may_answer_with p n v s)))
AnswersShown p st v None boards = (s : ℕ) → has boards s ≡ false

abbrev pub AreAnswerers : Plan → Standings → Option Value → SlotSet → Type 0
AreAnswerers p st v boards = AnswersShown p st v st.shown boards

-- a fall of a shared line
abbrev pub BoardsPull : Plan → Standings → Line → Option Value → SlotSet → Type 0
BoardsPull p st (line.Br n) v boards = AreAskers p n st.phases boards
BoardsPull p st (line.Irq n) v boards = AreOnLevel p n boards
BoardsPull p st line.Bbsy v boards =
    (s : ℕ) → has boards s ≡ is_taken p (asked st.lines) st.phases s
BoardsPull p st line.AddressStrobe v boards = AreStarters p st v boards
BoardsPull p st line.DataStrobe v boards =
    (s : ℕ) → has boards s ≡ (can_strobe st && has st.addressers s)
BoardsPull p st line.Dtack v boards = AreAnswerers p st v boards
BoardsPull p st _ v boards = (s : ℕ) → has boards s ≡ false

-- a rise of a shared line
abbrev pub BoardsLetGo : Plan → Version → Standings → Line → SlotSet → Type 0
BoardsLetGo p version st (line.Br n) boards = AreWithdrawers p version n st.phases boards
BoardsLetGo p version st (line.Irq n) boards = AreRisers p n st.requests boards
BoardsLetGo p version st line.Bbsy boards =
    (s : ℕ) → has boards s ≡ can_release p (asked st.lines) st.phases s
BoardsLetGo p version st line.AddressStrobe boards =
    (s : ℕ) → has boards s ≡ (can_end st && has st.addressers s)
BoardsLetGo p version st line.DataStrobe boards =
    (s : ℕ) → has boards s ≡ (is_answered st && has st.addressers s)
BoardsLetGo p version st line.Dtack boards =
    (s : ℕ) → has boards s ≡ (not (is_left_low st line.DataStrobe) && has st.answerers s)
BoardsLetGo p version st _ boards = (s : ℕ) → has boards s ≡ false

-- the segment of the grant chain may rise: a board took the grant, or nobody did
abbrev pub can_rise : Plan → Version → ℕ → ℕ → GrantPhases → Bool
can_rise p version c place phases =
    is_run_out p version c place phases
    || list_any (is_let_go p c place phases) (active p (grant_chain c))

-- The slot's board may pass the acknowledge on: it is not of these boards, which are those of the
-- acknowledge's level, or its request need not be pending. The other set tells whose line is low.
pub record MayPass (boards low : SlotSet) (d : Requests) (s : ℕ) (may : Bool) : Type 0 where
  pub other : has boards s ≡ false → may ≡ true
  pub able : has boards s ≡ true → may ≡ true → CannotPass s boards (has low s) d → ⊥
  pub unable : has boards s ≡ true → may ≡ false → CannotPass s boards (has low s) d

-- the same by the level of the acknowledge
pub record MayPassAt (p : Plan) (lines : Levels) (n : ℕ) (d : Requests) (s : ℕ)
    (may : Bool) : Type 0 where
  pub boards : SlotSet
  pub low : SlotSet
  pub level : AreOnLevel p n boards
  pub lines_are : (t : ℕ) → has low t ≡ is_on_low_line lines p t
  pub passes : MayPass boards low d s may

-- an acknowledge is under way: DS* is low
abbrev pub is_acknowledged : Option Shown → Bool
is_acknowledged (Some (shown.Acknowledge n)) = true
is_acknowledged _ = false

abbrev pub is_under_way : Standings → Bool
is_under_way st = is_acknowledged st.shown && is_left_low st line.DataStrobe

-- a fall of a board's segment of the acknowledge chain while this is shown: the acknowledge is
-- under way and may have reached the board, DTACK* is high, and the board may pass it on
abbrev pub PassesShown : Plan → Standings → ℕ → Option Shown → SlotSet → Type 0
PassesShown p st place (Some (shown.Acknowledge n)) boards =
    (may : Bool) × MayPassAt p st.lines n st.requests place may
    × ((s : ℕ) → has boards s
    ≡ (((is_left_low st line.DataStrobe && not (is_left_low st line.Dtack))
    && (has st.fronts.ends (input_place p place) && may)) && is_board_at place s))
PassesShown p st place _ boards = (s : ℕ) → has boards s ≡ false

-- The boards that may have made the change. That of a pin is made by the driver of its wire.
abbrev pub BoardsMake : Plan → Version → Standings → Moved → Bool → Option Value → SlotSet → Type 0
BoardsMake p version st (moved.Line l) true v boards = BoardsPull p st l v boards
BoardsMake p version st (moved.Line l) false v boards = BoardsLetGo p version st l boards
BoardsMake p version st (moved.Grant c place) true v boards =
    (s : ℕ) → has boards s ≡ (is_passed p version c place st.phases && is_board_at place s)
BoardsMake p version st (moved.Grant c place) false v boards =
    (s : ℕ) → has boards s ≡ (can_rise p version c place st.phases && is_board_at place s)
BoardsMake p version st (moved.Acknowledge place) true v boards =
    PassesShown p st place st.shown boards
BoardsMake p version st (moved.Acknowledge place) false v boards =
    (s : ℕ) → has boards s ≡ (not (is_some st.shown) && is_board_at place s)

-- the place of the last segment of the acknowledge chain: the input of a slot behind all others
abbrev pub last_place : Plan → ℕ
last_place p = input_place p 22

-- nobody answers what is shown: no board stands in the slot, the slot is not known and one may be
-- empty, or the acknowledge may have passed all interrupters
abbrev pub nobody_answers : Plan → Fronts → Option Shown → Bool
nobody_answers p f (Some (shown.Access (Some t))) = not (is_some (board p t))
nobody_answers p f (Some (shown.Access None)) = nat_lt (length p.rows) 21
nobody_answers p f (Some (shown.Acknowledge n)) = has f.ends (last_place p)
nobody_answers p f None = false

-- BERR* may fall
abbrev pub can_time_out : Plan → Standings → Bool
can_time_out p st =
    is_left_low st line.DataStrobe && not (is_left_low st line.Dtack)
    && nobody_answers p st.fronts st.shown

-- BCLR* may fall, or rise: in some phase bus clear is due, or is not due
pub record CanClear (p : Plan) (requests : BusLevels) (fall : Bool) (phases : GrantPhases)
    (can : Bool) : Type 0 where
  pub some : can ≡ true → (q : GrantPhase) × (has_phase phases q ≡ true)
      × (are_alike (is_clear_due p requests q) fall ≡ true)
  pub all : (q : GrantPhase) → is_in_table q ≡ true → has_phase phases q ≡ true
      → are_alike (is_clear_due p requests q) fall ≡ true → can ≡ true

-- whether the controller may have made the change
abbrev pub ControllerMakes : Plan → Version → Standings → Moved → Bool → Bool → Type 0
ControllerMakes p version st (moved.Line line.Berr) true may = may ≡ can_time_out p st
ControllerMakes p version st (moved.Line line.Berr) false may =
    may ≡ not (is_left_low st line.DataStrobe)
ControllerMakes p version st (moved.Line line.Bclr) fall may =
    CanClear p (asked st.lines) fall st.phases may
ControllerMakes p version st (moved.Line _) _ may = may ≡ false
ControllerMakes p version st (moved.Grant c place) true may =
    may ≡ (place == 0 && is_granted p (asked st.lines) c st.phases)
ControllerMakes p version st (moved.Grant c place) false may =
    may ≡ (place == 0 && can_rise p version c place st.phases)
ControllerMakes p version st (moved.Acknowledge place) true may =
    may ≡ (place == 0 && (is_under_way st && st.fronts.waiting))
ControllerMakes p version st (moved.Acknowledge place) false may =
    may ≡ (place == 0 && not (is_some st.shown))

-- who may have made the change
pub record AreDrivers (p : Plan) (probed : Probed) (st : Standings) (c : Change)
    (d : Drivers) : Type 0 where
  pub controller : ControllerMakes p probed.version st (moved_by p c.signal) c.fall d.controller
  pub boards : BoardsMake p probed.version st (moved_by p c.signal) c.fall c.value d.boards
