-- What an edge that reaches a goal needs of its driver, and who has it. (Profile.)
use Rattle.std.specs.Prelude.{◌==◌, ◌&&◌, ◌||◌, ℕ, Bool, true, false, not, if◌then◌else◌, Option, Some, None, List, [], ◌∷◌, find, is_ok, is_some, nat_le, option_map}
use Rattle.std.specs.List.{list_any}
use Rattle.std.specs.Option.{option_map_or}
use Rattle.vme_model.specs.declared.boards.Release.{Release}
use Rattle.vme_model.specs.declared.boards.Release.TheVariants.{Done, Request}
use Rattle.vme_model.specs.declared.boards.Row.{Row}
use Rattle.vme_model.specs.declared.conditions.Condition.{Condition}
use Rattle.vme_model.specs.declared.conditions.Condition.TheVariants.{Asked}
use Rattle.vme_model.specs.declared.sentences.Rule.{Rule}
use Rattle.vme_model.specs.declared.sentences.Rule.TheVariants.{G1, G2, G3, G4, G5, G6, G7, G8, G21, G22, G23, G24, G25, G26}
use Rattle.vme_model.specs.declared.signals.Driver.{Driver}
use Rattle.vme_model.specs.declared.signals.Driver.TheVariants.{Controller, Slot}
use Rattle.vme_model.specs.declared.signals.Edge.{Edge}
use Rattle.vme_model.specs.Plan.{Plan, board}
use Rattle.vme_model.specs.Sources.{is_same_condition}
use Rattle.vme_model.specs.Verdict.{State, verdict}
use Rattle.vme_goals.specs.declared.events.Event.{Event}
use Rattle.vme_goals.specs.declared.events.Event.TheVariants as event
use Rattle.vme_goals.specs.declared.misses.Miss.{Miss}
use Rattle.vme_goals.specs.declared.misses.Miss.TheVariants as miss
use Rattle.vme_goals.specs.declared.goals.Aim.{Aim}
use Rattle.vme_goals.specs.declared.goals.Aim.TheVariants as aim
use Rattle.vme_goals.specs.declared.goals.Goal.{Goal}
use Rattle.vme_goals.specs.Goals.{counts}
use Rattle.vme_events.specs.Events.{comes}
use Rattle.vme_events.specs.Misses.{is_same_kind, refuses}
use Rattle.vme_reach.specs.declared.needs.Need.{Need}
use Rattle.vme_reach.specs.declared.needs.Need.TheVariants as need
use Rattle.vme_reach.specs.declared.hindrances.Hindrance.{Hindrance}

-- An edge after a history reaches a goal: it is one of the driver that counts, and it is accepted
-- and brings the event about, or the condition alone refuses it.
abbrev pub fulfils : State → Aim → Edge → Bool
fulfils b (aim.Event v) e = is_ok (verdict b e) && comes b.plan b.history e v
fulfils b (aim.Miss m) e = refuses b m e

abbrev pub reaches : State → Goal → Edge → Bool
reaches b g e = counts g.driver e.driver && fulfils b g.aim e

-- what the parts of a backplane need that drive a wire, the more special later
abbrev pub of_controller : List Need
of_controller = need.Controller ∷ []

abbrev pub of_board : List Need
of_board = need.Board ∷ []

abbrev pub of_requester : List Need
of_requester = need.Board ∷ need.Requester ∷ []

abbrev pub of_interrupter : List Need
of_interrupter = need.Board ∷ need.Interrupter ∷ []

-- an edge that brings the event about
abbrev pub event_needs : Event → List Need
event_needs event.BusClear = of_controller
event_needs event.Spurious = of_controller
event_needs event.BusError = of_controller
event_needs event.GrantTimeout = of_controller
event_needs event.Rivals = of_interrupter
event_needs event.IackPassed = of_interrupter
event_needs event.Delivery = of_board
event_needs event.AnsweredAgain = of_board
event_needs _ = of_requester

-- an edge of the rule of that number
abbrev pub number_needs : ℕ → List Need
number_needs k =
    if nat_le k 8 then of_controller
    else (if nat_le k 20 then of_requester
    else (if nat_le k 24 then of_interrupter else of_board))

-- an edge of that rule
abbrev pub rule_needs : Rule → List Need
rule_needs G1 = of_controller
rule_needs G2 = of_controller
rule_needs G3 = of_controller
rule_needs G4 = of_controller
rule_needs G5 = of_controller
rule_needs G6 = of_controller
rule_needs G7 = of_controller
rule_needs G8 = of_controller
rule_needs G21 = of_interrupter
rule_needs G22 = of_interrupter
rule_needs G23 = of_interrupter
rule_needs G24 = of_interrupter
rule_needs G25 = of_board
rule_needs G26 = of_board
rule_needs _ = of_requester

-- with ROR alone, G14 asks for a low BR line (chapter 3)
abbrev pub condition_needs : ℕ → Condition → List Need
condition_needs k c =
    if k == 14 && is_same_condition c Asked
    then need.Board ∷ need.Requester ∷ need.OnRequest ∷ [] else number_needs k

-- an edge that the miss refuses
abbrev pub miss_needs : Miss → List Need
miss_needs (miss.Rule k c) = condition_needs k c
miss_needs (miss.Unserved kind) = need.Board ∷ need.Interrupter ∷ need.Kind kind ∷ []
miss_needs (miss.Settling k) = if k == 1 then of_requester else of_controller
miss_needs (miss.AnyOf r) = rule_needs r

abbrev pub needs : Aim → List Need
needs (aim.Event v) = event_needs v
needs (aim.Miss m) = miss_needs m

abbrev pub is_on_request : Release → Bool
is_on_request (Done burst) = false
is_on_request Request = true

-- the board has what is needed
abbrev pub board_has : Need → Row → Bool
board_has need.Controller r = false
board_has need.Board r = true
board_has need.Requester r = is_some r.requester
board_has need.OnRequest r = option_map_or (λ q. is_on_request q.release) r.requester false
board_has need.Interrupter r = is_some r.interrupter
board_has (need.Kind kind) r =
    option_map_or (λ i. is_same_kind i.kind kind) r.interrupter false

abbrev pub is_controllers : Need → Bool
is_controllers need.Controller = true
is_controllers _ = false

-- the driver has it
abbrev pub driver_has : Plan → Need → Driver → Bool
driver_has p n Controller = is_controllers n
driver_has p n (Slot s) = option_map_or (board_has n) (board p s) false

-- the only driver that counts has it, or some driver if all count
abbrev pub is_met : Plan → Option Driver → Need → Bool
is_met p (Some only) n = driver_has p n only
is_met p None n = is_controllers n || list_any (board_has n) p.rows

-- the first need that is not met
abbrev pub hindrance_of : Plan → Goal → Option Hindrance
hindrance_of p g =
    option_map (λ n. record { aim = g.aim; driver = g.driver; need = n })
    (find (λ n. not (is_met p g.driver n)) (needs g.aim))
