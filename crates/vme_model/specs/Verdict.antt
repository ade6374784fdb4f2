-- The answer to an edge, legal histories, and the edges that are kept. (The order of refusals is
-- this project's profile.)
use Rattle.std.specs.Prelude.{◌==◌, ◌≡◌, ◌&&◌, ◌∷◌, ℕ, Bool, true, false, not, if◌then◌else◌, Option, Result, Ok, Err, List, [], length, is_ok}
use Rattle.vme_model.specs.declared.conditions.Condition.TheVariants.{HasDriver, OtherState, HasRoom}
use Rattle.vme_model.specs.declared.refusals.Refused.{Refused}
use Rattle.vme_model.specs.declared.refusals.Refused.TheVariants.{NoSuchDriver, AlreadyThere, Rule, NotSettled, TraceFull}
use Rattle.vme_model.specs.declared.signals.Version.{Version}
use Rattle.vme_model.specs.declared.signals.Cycle.{Cycle}
use Rattle.vme_model.specs.declared.signals.Edge.{Edge}
use Rattle.vme_model.specs.declared.signals.Wire.{Wire}
use Rattle.vme_model.specs.Signals.{is_well_formed}
use Rattle.vme_model.specs.Plan.{Plan, has_driver}
use Rattle.vme_model.specs.Readings.{Readings, readings}
use Rattle.vme_model.specs.Guards.{Guard, asks, holds}
use Rattle.vme_model.specs.Rules.{rule}
use Rattle.vme_model.specs.Settling.{settling}

-- a backplane: the version of its rules, its plan, its history, and how many edges its trace holds
pub record State : Type 0 where
  pub version : Version
  pub plan : Plan
  pub history : List Edge
  pub max : ℕ

-- the answer to an edge: it is accepted, or refused
abbrev pub Judgement : Type 0
Judgement = Result (Unit {0}) Refused

-- the refusal if the test fails, and otherwise what comes after
abbrev pub check : Bool → Refused → Judgement → Judgement
check true refusal rest = rest
check false refusal rest = Err refusal

-- an edge moves its wire to the other state
abbrev pub is_other_state : Bool → Bool → Bool
is_other_state low fall = if fall then not low else low

-- what E1, E2 and E5 ask for, about an edge
abbrev pub driver_guard : Plan → Edge → Guard
driver_guard p e = asks HasDriver (is_well_formed e && has_driver p e.driver e.wire)

abbrev pub state_guard : Bool → Bool → Guard
state_guard low fall = asks OtherState (is_other_state low fall)

abbrev pub room_guard : State → Guard
room_guard b = asks HasRoom (not (length b.history == b.max))

-- E2 and E3 by what the driver's rules read, or what comes after
abbrev pub ruled : Version → Readings → Wire → Bool → Option Cycle → Judgement → Judgement
ruled version r w fall v rest =
    check (holds (state_guard (r.own w) fall)) AlreadyThere
    (check (rule version r w fall v).1 (Rule (rule version r w fall v).0)
    rest)

-- the answer of the rules alone to an edge of a wire: E2, E3 or Ok
abbrev pub ruling_on : Version → Readings → Wire → Bool → Option Cycle → Judgement
ruling_on version r w fall v = ruled version r w fall v (Ok tt)

-- the answer of the rules alone to an edge: E2, E3 or Ok
abbrev pub ruling : Version → Readings → Edge → Judgement
ruling version r e = ruling_on version r e.wire e.fall e.value

-- the settling rule that names the edge, if any, holds
abbrev pub settled : Version → Plan → List Edge → Edge → Bool
settled version p h e = (settling version p h e.wire e.fall).1

-- E1 to E4, or what comes after
abbrev pub judged : Version → Plan → List Edge → Edge → Judgement → Judgement
judged version p h e rest =
    check (holds (driver_guard p e)) NoSuchDriver
    (ruled version (readings p h e.driver) e.wire e.fall e.value
    (check (settled version p h e) (NotSettled (settling version p h e.wire e.fall).0)
    rest))

-- the first of E1 to E5 that applies
abbrev pub verdict : State → Edge → Judgement
verdict b e = judged b.version b.plan b.history e (check (holds (room_guard b)) TraceFull (Ok tt))

-- the first of E1 to E4 that applies
abbrev pub verdict_but_full : Version → Plan → List Edge → Edge → Judgement
verdict_but_full version p h e = judged version p h e (Ok tt)

-- each edge of the list was allowed when it was made
abbrev pub IsLegal : Version → Plan → List Edge → Type 0
IsLegal version p [] = Unit {0}
IsLegal version p (e ∷ h) = (verdict_but_full version p h e ≡ Ok tt) × IsLegal version p h

-- the backplane with an edge made
abbrev pub made : State → Edge → State
made b e = record b { history = e ∷ b.history }

-- the backplane after an edge: with it if the verdict is Ok, and otherwise as it was
abbrev pub after : State → Edge → State
after b e = if is_ok (verdict b e) then made b e else b

-- the backplane after those edges that are accepted, each judged on what was kept before it
abbrev pub kept : State → List Edge → State
kept b [] = b
kept b (e ∷ es) = kept (after b e) es
