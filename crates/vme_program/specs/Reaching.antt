-- Goals that are sought only if nothing hinders them.
use Rattle.std.specs.Prelude.{◌≡◌, ◌⊎◌, ◌≤◌, ℕ, List, length, Option, Some, None, Ok}
use Rattle.std.specs.Borrow.{Bor}
use Rattle.std.specs.Io.KnownBytes.{Keeps}
use Rattle.vme_model.specs.Plan.{Plan}
use Rattle.vme_scenario.specs.Format.{scenario as read}
use Rattle.vme_goals.specs.declared.goals.Goal.{Goal}
use Rattle.vme_reach.specs.declared.hindrances.Hindrance.{Hindrance}
use Rattle.vme_reach.specs.Needs.{hindrance_of}
use Rattle.vme_reading.specs.declared.EngineFault.{EngineFault}
use Rattle.vme_reading.specs.Outcomes.{Answer, scenario_limit}
use Rattle.vme_reading.specs.Steps.{IsNoPlan}
use Rattle.vme_command_line.specs.declared.Choice.{Choice}
use Rattle.vme_command_line.specs.declared.Choice.TheVariants.{InTurn, Drawn, Sought}
use Rattle.vme_program.specs.Names.{fault_named}
use Rattle.vme_program.specs.declared.faults.ProgramFault.{ProgramFault}
use Rattle.vme_program.specs.declared.faults.ProgramFault.TheVariants.{NeverComes}

-- the goal with which the trace of a drive is to end, if there is one
abbrev pub goal_of : Choice → Option Goal
goal_of InTurn = None
goal_of (Drawn seed until) = until
goal_of (Sought first last goal progress) = Some goal

-- what hinders a goal, if there is one
abbrev pub hindrance_to : Plan → Option Goal → Option Hindrance
hindrance_to p None = None
hindrance_to p (Some g) = hindrance_of p g

-- an engine that runs only if nothing hinders the goal
abbrev pub Unhindered : Option Goal → (Plan → Answer → Type 0) → Plan → Answer → Type 0
Unhindered until Runs p answer = (hindrance_to p until ≡ None) × Runs p answer

-- the text of a scenario has a plan, on which this hinders the goal
abbrev pub Hinders : List ℕ → Option Goal → Hindrance → Type 0
Hinders text until why =
    (p : Plan) × (length text ≤ scenario_limit) × (read text ≡ Ok p)
    × (hindrance_to p until ≡ Some why)

-- a job ends with what hinders its goal, and nothing is written
abbrev pub GivesUp : Option Goal → Option (List ℕ) → Option (List ℕ) → Hindrance → Type 0
GivesUp until old new why = ((text : List ℕ) × Hinders text until why) × Keeps old new

-- the text of a scenario of this name has no plan, or one on which something hinders the goal
abbrev pub IsUnreached : List ℕ → Bor (List ℕ) → Option Goal → ProgramFault → Type 0
IsUnreached text name until f =
    ((e : EngineFault) × IsNoPlan text e × (f ≡ fault_named name e))
    ⊎ ((why : Hindrance) × Hinders text until why × (f ≡ NeverComes why))
