-- What a run of the boards writes and returns.
use Rattle.std.specs.Prelude.{◌≡◌, ◌==◌, ◌≤◌, ◌*◌, ℕ, List, length, All, sum_by, Option, Result, Ok, Err, if◌then◌else◌}
use Rattle.std.specs.Io.KnownBytes.{Appends, Keeps}
use Rattle.vme_model.specs.declared.signals.Version.{Version}
use Rattle.vme_model.specs.declared.signals.Driver.{Driver}
use Rattle.vme_model.specs.declared.signals.Edge.{Edge}
use Rattle.vme_model.specs.Plan.{Plan, drivers}
use Rattle.vme_model.specs.History.{in_order}
use Rattle.vme_model.specs.Counts.{count}
use Rattle.vme_model.specs.Verdict.{IsLegal}
use Rattle.vme_model.specs.Safe.{IsSafe}
use Rattle.vme_model.specs.Text.{text}
use Rattle.vme_scenario.specs.Format.{scenario}
use Rattle.vme_trace.specs.declared.Fault.TheVariants.{Write}
use Rattle.vme_trace.specs.Writing.{AppendsFront}
use Rattle.vme_reading.specs.declared.Status.{Status}
use Rattle.vme_reading.specs.declared.Status.TheVariants.{Done, Limit}
use Rattle.vme_reading.specs.declared.EngineFault.TheVariants as fault
use Rattle.vme_reading.specs.Outcomes.{Answer, LentAsking, scenario_limit}
use Rattle.vme_lock.specs.Closing.{FirstDiffers}
use Rattle.vme_run.specs.declared.RunFault.{RunFault}
use Rattle.vme_run.specs.declared.RunFault.TheVariants.{Engine, NotStarted, LogDiffers, NotReplayed}

-- at most n edges, and at most one for each turn of each driver; they are legal for the plan, and
-- hence safe; the newest comes first
pub record IsMade (version : Version) (n turns : ℕ) (p : Plan) (h : List Edge) : Type 0 where
  pub legal : IsLegal version p h
  pub safe : IsSafe p h
  pub within : length h ≤ n
  pub in_turns : length h ≤ turns * length (drivers p)

-- no driver has more edges than it had turns
abbrev pub AreInTurns : ℕ → List Driver → List Edge → Type 0
AreInTurns turns ds h = All (λ d. count h d ≤ turns) ds

-- edges that a run may make: such edges, no driver having more of them than turns
abbrev pub IsRun : Version → ℕ → ℕ → Plan → List Edge → Type 0
IsRun version n turns p h = IsMade version n turns p h × AreInTurns turns (drivers p) h

-- What a run leaves on a plan, by what the writer held before and holds now: the trace of its
-- edges, or at X8 a prefix of it.
abbrev pub RunsOn : Version → ℕ → ℕ → Option (List ℕ) → Option (List ℕ) → Plan → Answer → Type 0
RunsOn version n turns old new p (Ok status) =
    (h : List Edge) × IsRun version n turns p h
    × Appends old new (text version (in_order h))
    × (status ≡ (if length h == n then Limit else Done))
RunsOn version n turns old new p (Err (fault.Trace f)) =
    (h : List Edge) × IsRun version n turns p h
    × (f ≡ Write) × AppendsFront old new (text version (in_order h))
RunsOn version n turns old new p (Err _) = ⊥

-- the logs that the workers of that many drivers may return for that many edges: one each, none
-- longer than the turns, and together they have those edges
pub record AreHandedBack (turns many edges : ℕ) (logs : List (List Edge)) : Type 0 where
  pub each : length logs ≡ many
  pub short : All (λ log. length log ≤ turns) logs
  pub all : sum_by (λ log. length log) logs ≡ edges

-- L4: the drivers of a plan made these edges, and for some logs that their workers may return, this
-- driver is the first whose edges are not its log
abbrev pub HasOtherLogs : Version → ℕ → ℕ → Plan → Driver → ℕ → Type 0
HasOtherLogs version n turns p driver at =
    (h : List Edge) × (logs : List (List Edge)) × IsMade version n turns p h
    × AreHandedBack turns (length (drivers p)) (length h) logs
    × FirstDiffers h (drivers p) logs driver at

-- the scenario is read, and this holds for its plan
abbrev pub OfPlan : List ℕ → (Plan → Type 0) → Type 0
OfPlan lent P = (p : Plan) × (length lent ≤ scenario_limit) × (scenario lent ≡ Ok p) × P p

-- what a run returns
abbrev pub RunAnswer : Type 0
RunAnswer = Result Status RunFault

-- What a run leaves and returns, if it is given the text of a scenario. Either it returns the first
-- fault of the scenario and leaves nothing. Or the scenario is read, and the drivers of its plan
-- ran, or memory ran out (F3, L3).
abbrev pub Runs : List ℕ → Version → ℕ → ℕ → Option (List ℕ) → Option (List ℕ) → RunAnswer → Type 0
Runs lent version n turns old new (Ok status) =
    LentAsking lent (Keeps old new) (RunsOn version n turns old new) (Ok status)
Runs lent version n turns old new (Err (Engine f)) =
    LentAsking lent (Keeps old new) (RunsOn version n turns old new) (Err f)
Runs lent version n turns old new (Err NotStarted) = OfPlan lent (λ p. Keeps old new)
Runs lent version n turns old new (Err (LogDiffers driver at)) =
    OfPlan lent (λ p. HasOtherLogs version n turns p driver at × Keeps old new)
Runs lent version n turns old new (Err (NotReplayed at)) = ⊥
