-- What the text of a scenario opens, or the number by which it is refused.
use Rattle.std.specs.Prelude.{◌≡◌, ◌≢◌, ◌⊎◌, ◌<◌, ◌≤◌, ℕ, List, [], length, Option, Some, None, Ok}
use Rattle.vme_model.specs.declared.refusals.PlanError.{PlanError}
use Rattle.vme_model.specs.declared.refusals.PlanError.TheVariants as refusal
use Rattle.vme_model.specs.declared.signals.Version.{Version}
use Rattle.vme_model.specs.Plan.{Plan}
use Rattle.vme_scenario.specs.declared.errors.ScenarioError.{ScenarioError}
use Rattle.vme_scenario.specs.declared.errors.ScenarioError.TheVariants as error
use Rattle.vme_scenario.specs.Errors.{IsErrorOf}
use Rattle.vme_scenario.specs.Format.{scenario}
use Rattle.vme_bus.specs.declared.states.BusState.{BusState}
use Rattle.vme_bus.specs.States.{IsStateOf}

-- the most bytes of a scenario (profile)
abbrev pub scenario_limit : ℕ
scenario_limit = 1048576

-- P1 to P9 by their own numbers
abbrev pub plan_number : PlanError → ℕ
plan_number refusal.NoController = 1
plan_number (refusal.TooManySlots slots) = 2
plan_number (refusal.SlotTwice slot) = 3
plan_number (refusal.ChainBroken slot chain) = 4
plan_number (refusal.LevelNotServed slot) = 5
plan_number (refusal.HandlerTwice level) = 6
plan_number (refusal.HandlerWithoutRequester slot) = 7
plan_number (refusal.OutOfRange field) = 8
plan_number refusal.Memory = 9

-- a fault of the plan by its own number, and Q1 to Q4 and Q6 from 11 on
abbrev pub scenario_number : ScenarioError → ℕ
scenario_number error.NotToml = 11
scenario_number (error.UnknownKey key) = 12
scenario_number (error.Missing key) = 13
scenario_number (error.BadValue key) = 14
scenario_number (error.Plan e) = plan_number e
scenario_number error.Memory = 16

-- F2 is 20: the scenario is too long; otherwise it is the first fault of the scenario
abbrev pub IsScenarioFault : List ℕ → ℕ → Type 0
IsScenarioFault text n =
    ((scenario_limit < length text) × (n ≡ 20))
    ⊎ ((e : ScenarioError) × (length text ≤ scenario_limit) × IsErrorOf (scenario text) e
    × (n ≡ scenario_number e))

-- X1 is 31: there is no such version
abbrev pub IsFault : Option Version → List ℕ → ℕ → Type 0
IsFault None text n = n ≡ 31
IsFault (Some version) text n = IsScenarioFault text n

-- there is a fault, which has a number
abbrev pub HasFault : Option Version → List ℕ → Type 0
HasFault version text = (n : ℕ) × IsFault version text n

-- there is none: the version is one, and the scenario has a plan
abbrev pub HasNoFault : Option Version → List ℕ → Type 0
HasNoFault None text = ⊥
HasNoFault (Some version) text =
    (p : Plan) × (length text ≤ scenario_limit) × (scenario text ≡ Ok p)

-- the bytes of a bus, of 165 words of four bytes each
abbrev pub bus_bytes : ℕ
bus_bytes = 660

-- the bytes of draws, of 37 words
abbrev pub draws_bytes : ℕ
draws_bytes = 148

-- the caller's bus or draws have another size
abbrev pub size_fault : ℕ
size_fault = 32

-- that fault comes before those of the version and the scenario
abbrev pub IsSizedFault : ℕ → Option Version → List ℕ → ℕ → Type 0
IsSizedFault bytes version text n =
    ((bytes ≢ bus_bytes) × (n ≡ size_fault)) ⊎ ((bytes ≡ bus_bytes) × IsFault version text n)

-- the bus of the scenario's plan under the rules of that version, before any edge
abbrev pub IsOpened : Option Version → List ℕ → BusState → Type 0
IsOpened None text b = ⊥
IsOpened (Some version) text b =
    (p : Plan) × (length text ≤ scenario_limit) × (scenario text ≡ Ok p) × IsStateOf version p [] b
