-- A `drive` with a goal, which something may hinder: src/goals.rt, src/drives.rt.
use Rattle.std.proofs.Common.{◌≡◌, ◌≤◌, inl, inr, ℕ, Bool, List, length, Option, Some, None, Ok, Err, refl, sym, subst}
use Rattle.std.specs.Io.KnownBytes.{Keeps}
use Rattle.std.specs.Borrow.{Bor}
use Rattle.std.proofs.KnownBytes.{Keeps-refl}
use Rattle.vme_model.specs.declared.signals.Version.{Version}
use Rattle.vme_model.specs.Plan.{Plan}
use Rattle.vme_scenario.specs.Format.{scenario as read}
use Rattle.vme_goals.specs.declared.goals.Goal.{Goal}
use Rattle.vme_reach.specs.Needs.{hindrance_of}
use Rattle.vme_reading.specs.declared.EngineFault.TheVariants as fault
use Rattle.vme_drive.specs.Found.{Found, Finds, found_answer}
use Rattle.vme_reading.specs.Outcomes.{Answer, Lent, scenario_limit}
use Rattle.vme_command_line.specs.declared.Job.{Job}
use Rattle.vme_command_line.specs.declared.Job.TheVariants.{OnScenario}
use Rattle.vme_command_line.specs.declared.Choice.{Choice}
use Rattle.vme_command_line.specs.declared.Choice.TheVariants.{Sought}
use Rattle.vme_command_line.specs.declared.Work.TheVariants.{Drive}
use Rattle.vme_program.specs.declared.faults.ProgramFault.{ProgramFault}
use Rattle.vme_program.specs.CheckingFiles.{OnPlan}
use Rattle.vme_program.specs.Done.{DoesDrive, Fails, IsDone, Known, OnText, Stops}
use Rattle.vme_program.specs.Names.{IsFaultOf, answer_named, scenario_name}
use Rattle.vme_program.specs.Reaching.{IsUnreached, Unhindered, goal_of, hindrance_to}
use Rattle.vme_program.proofs.Adding.{plan_is}
use Rattle.vme_program.proofs.CheckedFiles.{plan_fault, unplanned}
use Rattle.vme_program.proofs.Handing.{handed}

-- ---- `goals::test_goal`

-- what holds on the plan holds on each plan of the text
pub free_on : (text : List ℕ) (g : Goal) (q : Plan) → (length text ≤ scenario_limit) × (read text ≡ Ok q) → hindrance_of q g ≡ None → OnPlan text (λ p. hindrance_to p (Some g) ≡ None)
free_on text g q planned free p short is = subst (λ (x : Plan). hindrance_of x g ≡ None) (plan_is (read text) q p planned.1 is) free

-- ---- nothing hinders the goal

-- an engine that runs on the plan of a text does what follows there
lent_on : (text : List ℕ) (nothing : Type 0) (Runs Follows : Plan → Answer → Type 0) (answer : Answer) → OnPlan text (λ p. Runs p answer → Follows p answer)
    → Lent text nothing Runs answer → Lent text nothing Follows answer
lent_on text nothing Runs Follows (Ok status) on does = (does.0, does.1, does.2, on does.0 does.1 does.2 does.3)
lent_on text nothing Runs Follows (Err fault.CannotRead) on does = absurd does
lent_on text nothing Runs Follows (Err fault.TooLong) on does = does
lent_on text nothing Runs Follows (Err (fault.Scenario e)) on does = does
lent_on text nothing Runs Follows (Err (fault.Trace f)) on does = (does.0, does.1, does.2, on does.0 does.1 does.2 does.3)
lent_on text nothing Runs Follows (Err (fault.Beyond n)) on does = (does.0, does.1, does.2, on does.0 does.1 does.2 does.3)
lent_on text nothing Runs Follows (Err fault.NoMemory) on does = absurd does

-- the seed that was found is known
pub sought_done : (text : List ℕ) (edges first last : ℕ) (goal : Goal) (version : Version) (progress : Bool) (old new : Known) (found : Found)
    → Lent text (Keeps old new) (Finds version edges first last goal old new found) (found_answer found)
    → Lent text (Keeps old new) (DoesDrive edges version (Sought first last goal progress) old new) (found_answer found)
sought_done text edges first last goal version progress old new found does =
    lent_on text (Keeps old new) (Finds version edges first last goal old new found) (DoesDrive edges version (Sought first last goal progress) old new) (found_answer found)
    (λ p short is runs. (found, refl, runs)) does

module _ (scenario : Bor (List ℕ)) (text : List ℕ) (edges : ℕ) (version : Version) (choice : Choice) where
  abbrev job : Job
  job = OnScenario scenario (Drive edges version choice)

  abbrev Runs : Known → Known → Plan → Answer → Type 0
  Runs old new = Unhindered (goal_of choice) (DoesDrive edges version choice old new)

  pub drive_done : (old new : Known) (answer : Answer) → OnPlan text (λ p. hindrance_to p (goal_of choice) ≡ None)
      → Lent text (Keeps old new) (DoesDrive edges version choice old new) answer → IsDone job old new (answer_named scenario answer)
  drive_done old new answer free does =
      handed (Stops job) (Fails job old new) (OnText (Runs old new) old new) (Keeps old new) scenario answer
      (text, lent_on text (Keeps old new) (DoesDrive edges version choice old new) (Runs old new) answer (λ p short is runs. (free p short is, runs)) does) (λ h. absurd h.1) (λ h. h.1.1)

  -- something hinders it, or the text has no plan
  pub drive_unreached : (held : Known) (f : ProgramFault) → IsUnreached text scenario (goal_of choice) f → IsDone job held held (Err f)
  drive_unreached held f why = elim why [
    | inl failed ↦ subst (λ (g : ProgramFault). IsDone job held held (Err g)) (sym failed.2)
        (unplanned text (Runs held held) held held (Stops job) (Fails job held held) scenario failed.0 (Keeps-refl held) failed.1)
    | inr never ↦ subst (λ (g : ProgramFault). IsDone job held held (Err g)) (sym never.2) ((text, never.1), Keeps-refl held)
  ]

-- ---- the files that the fault may name

pub unreached_fault : (job : Job) (text : List ℕ) (name : Bor (List ℕ)) (until : Option Goal) (f : ProgramFault) → name.now ≡ scenario_name job → IsUnreached text name until f → IsFaultOf job f
unreached_fault job text name until f is why = elim why [
  | inl failed ↦ subst (λ (g : ProgramFault). IsFaultOf job g) (sym failed.2) (plan_fault job text name failed.0 is failed.1)
  | inr never ↦ subst (λ (g : ProgramFault). IsFaultOf job g) (sym never.2) tt
]
