-- What the functions of a run promise one another.
use Rattle.std.specs.Prelude.{◌≡◌, ◌==◌, ◌≤◌, ◌+◌, ◌*◌, ℕ, List, length, Option, Ok, Err, if◌then◌else◌}
use Rattle.std.specs.Io.KnownBytes.{Appends}
use Rattle.vme_model.specs.declared.signals.Driver.{Driver}
use Rattle.vme_model.specs.declared.signals.Edge.{Edge}
use Rattle.vme_model.specs.Plan.{Plan, drivers}
use Rattle.vme_model.specs.History.{in_order}
use Rattle.vme_model.specs.Verdict.{State, IsLegal}
use Rattle.vme_model.specs.Safe.{IsSafe}
use Rattle.vme_model.specs.Text.{text}
use Rattle.vme_scenario.specs.Format.{scenario}
use Rattle.vme_trace.specs.declared.Fault.TheVariants.{Write}
use Rattle.vme_trace.specs.Writing.{AppendsFront}
use Rattle.vme_reading.specs.declared.Status.TheVariants.{Done, Limit}
use Rattle.vme_reading.specs.declared.EngineFault.TheVariants as fault
use Rattle.vme_reading.specs.Outcomes.{scenario_limit}
use Rattle.vme_reading.specs.Steps.{IsNoPlan}
use Rattle.vme_lock.specs.Seats.{Place, Follows}
use Rattle.vme_lock.specs.Closing.{IsClosing, AreLogs, FirstDiffers}
use Rattle.vme_run.specs.declared.RunFault.{RunFault}
use Rattle.vme_run.specs.declared.RunFault.TheVariants.{Engine, NotStarted, LogDiffers, NotReplayed}
use Rattle.vme_run.specs.Running.{AreInTurns, AreHandedBack, RunAnswer}

-- the scenario is read as this plan
pub record IsRead (lent : List ℕ) (p : Plan) : Type 0 where
  pub short : length lent ≤ scenario_limit
  pub read : scenario lent ≡ Ok p

-- the fault for which there is no plan
abbrev pub IsUnread : List ℕ → RunFault → Type 0
IsUnread lent (Engine f) = IsNoPlan lent f
IsUnread lent _ = ⊥

-- closing the lock of a backplane returned the backplane, with the seats as they were passed in
pub record IsClosed (opened : State) (seats : List Place) (b : State) : Type 0 where
  pub closing : IsClosing opened seats b
  pub safe : IsSafe b.plan b.history
  pub fits : length b.history ≤ b.max

-- each driver's edges are the log that was passed in
abbrev pub IsClosedWith : State → List Place → List (List Edge) → State → Type 0
IsClosedWith opened seats logs b =
    IsClosed opened seats b × AreLogs b.history (drivers opened.plan) logs

-- L4, for the logs that were passed in
abbrev pub IsClosedApart : State → List Place → List (List Edge) → RunFault → Type 0
IsClosedApart opened seats logs (LogDiffers driver at) =
    (b : State) × IsClosed opened seats b
    × FirstDiffers b.history (drivers opened.plan) logs driver at
IsClosedApart opened seats logs _ = ⊥

-- the drivers of a backplane made edges that its rules allow, in all at most one for each turn of
-- each driver, and nothing else changed
abbrev pub IsGrown : ℕ → State → State → Type 0
IsGrown turns opened b =
    Follows opened b × IsLegal b.version b.plan b.history × IsSafe b.plan b.history
    × (length b.history ≤ b.max)
    × (length b.history ≤ length opened.history + turns * length (drivers opened.plan))

-- the backplane grew so, and no driver has more edges than turns
abbrev pub IsPlayed : ℕ → State → State → Type 0
IsPlayed turns opened b = IsGrown turns opened b × AreInTurns turns (drivers opened.plan) b.history

-- the backplane grew, and the logs of its workers are not its drivers' edges
abbrev pub HasGrownApart : ℕ → State → State → Driver → ℕ → Type 0
HasGrownApart turns opened b driver at =
    (logs : List (List Edge)) × (made : ℕ)
    × AreHandedBack turns (length (drivers opened.plan)) made logs
    × (length b.history ≡ length opened.history + made)
    × FirstDiffers b.history (drivers opened.plan) logs driver at

-- Why a backplane was not played: F3, L3, or L4.
abbrev pub IsNotPlayed : ℕ → State → RunFault → Type 0
IsNotPlayed turns opened (Engine fault.NoMemory) = Unit {0}
IsNotPlayed turns opened (Engine _) = ⊥
IsNotPlayed turns opened NotStarted = Unit {0}
IsNotPlayed turns opened (LogDiffers driver at) =
    (b : State) × IsGrown turns opened b × HasGrownApart turns opened b driver at
IsNotPlayed turns opened (NotReplayed at) = ⊥

-- what is left of the trace of a backplane, and the status or fault of the run
abbrev pub IsWritten : State → ℕ → Option (List ℕ) → Option (List ℕ) → RunAnswer → Type 0
IsWritten b n old new (Ok status) =
    Appends old new (text b.version (in_order b.history))
    × (status ≡ (if length b.history == n then Limit else Done))
IsWritten b n old new (Err (Engine (fault.Trace f))) =
    (f ≡ Write) × AppendsFront old new (text b.version (in_order b.history))
IsWritten b n old new (Err _) = ⊥
