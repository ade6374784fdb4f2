-- What a job leaves on its output, and returns.
use Rattle.std.specs.Prelude.{◌≡◌, ◌⊎◌, ℕ, List, Option, Some, None, Result, Ok, Err}
use Rattle.std.specs.Io.KnownBytes.{Appends, Keeps}
use Rattle.vme_model.specs.declared.Version.{Version}
use Rattle.vme_model.specs.Plan.{Plan}
use Rattle.vme_rulebook.specs.declared.Entry.{Entry}
use Rattle.vme_rulebook.specs.Entries.{entry_text}
use Rattle.vme_rulebook.specs.Pages.{list}
use Rattle.vme_scenario.specs.Format.{scenario as read}
use Rattle.vme_trace.specs.declared.Fault.{Fault}
use Rattle.vme_trace.specs.declared.Fault.TheVariants.{Write}
use Rattle.vme_trace.specs.Writing.{AppendsFront}
use Rattle.vme_reading.specs.declared.Status.{Status}
use Rattle.vme_reading.specs.declared.Status.TheVariants as ends
use Rattle.vme_reading.specs.declared.EngineFault.TheVariants as fault
use Rattle.vme_reading.specs.Streams.{Streams, ReadNothing, WroteNothing, streams}
use Rattle.vme_reading.specs.Outcomes.{Answer, Lent, LentAsking, ReplaysInput}
use Rattle.vme_check.specs.Checking.{ChecksInput}
use Rattle.vme_following.specs.Explaining.{ExplainsInput}
use Rattle.vme_following.specs.Stating.{StatesInput}
use Rattle.vme_show.specs.Showing.{ShowsInput}
use Rattle.vme_summary.specs.Summing.{SumsInput}
use Rattle.vme_drive.specs.Driving.{Drives}
use Rattle.vme_drive.specs.Drawing.{Draws}
use Rattle.vme_drive.specs.Found.{Found, Finds, found_answer}
use Rattle.vme_replay.specs.Joining.{Joins}
use Rattle.vme_reading.specs.Readings.{ReadsInput, ReadsLent}
use Rattle.vme_reading.specs.declared.EngineFault.{EngineFault}
use Rattle.vme_cycles.specs.Outcomes.{ReportsInput}
use Rattle.vme_run.specs.declared.RunFault.{RunFault}
use Rattle.vme_run.specs.declared.RunFault.TheVariants as run
use Rattle.vme_run.specs.Running.{Runs}
use Rattle.vme_shrink.specs.Shrinking.{ShrinksInput}
use Rattle.vme_races.specs.Outcomes.{ReportsInput as ReportsRaces}
use Rattle.vme_races.specs.Asked.{PrintsWalkInput}
use Rattle.vme_races.specs.Other.{Orders}
use Rattle.vme_races.specs.declared.other.OtherOrder.{OtherOrder as Other}
use Rattle.vme_races.specs.declared.other.OtherOrder.TheVariants as other
use Rattle.vme_moments.specs.declared.slacks.Slacks.{Slacks}
use Rattle.vme_order.specs.declared.Form.{Form}
use Rattle.vme_order.specs.declared.OrderingFault.TheVariants as order
use Rattle.vme_order.specs.Ordering.{Answer as OrderAnswer, LentText, OrdersInput}
use Rattle.vme_probe.specs.declared.ProbeFault.TheVariants as probe
use Rattle.vme_probe.specs.Probing.{Answer as ProbeAnswer, LentText as LentCapture, ProbesText}
use Rattle.vme_command_line.specs.declared.Job.{Job}
use Rattle.vme_command_line.specs.declared.Job.TheVariants.{Joined, OwnVersion, Rules, OnScenario}
use Rattle.vme_command_line.specs.declared.Work.{Work}
use Rattle.vme_command_line.specs.declared.Work.TheVariants.{OnTrace, Checks, Sums, OtherOrder, Same, Order, Probe, Drive, Run}
use Rattle.vme_command_line.specs.declared.Task.{Task}
use Rattle.vme_command_line.specs.declared.Task.TheVariants.{Replay, Check, Explain, Shrink, State, Show, Cycles, Summary, Races, Walk}
use Rattle.vme_command_line.specs.declared.Choice.{Choice}
use Rattle.vme_command_line.specs.declared.Choice.TheVariants.{InTurn, Drawn, Sought}
use Rattle.vme_command_line.specs.Asked.{Ask, texts_of}
use Rattle.vme_command_line.specs.declared.TheConstants.{VERSION}
use Rattle.vme_program.specs.CheckedFiles.{ChecksFiles, HasFaulty}
use Rattle.vme_program.specs.Comparisons.{ComparesFiles, SecondStops}
use Rattle.vme_program.specs.Names.{form_of, line_form}
use Rattle.vme_program.specs.Reaching.{GivesUp, Unhindered, goal_of}
use Rattle.vme_program.specs.Statuses.{exit_code}
use Rattle.vme_program.specs.Together.{LacksFiles, SumsFiles}
use Rattle.vme_program.specs.declared.faults.ProgramFault.{ProgramFault}
use Rattle.vme_program.specs.declared.faults.ProgramFault.TheVariants.{CannotRead, TooLong, Engine, InTrace, SomeTraces, NoRace, NeverComes, Boards, Ordering, Probing}

abbrev pub Known : Type 0
Known = Option (List ℕ)

-- The answer of an engine, without the faults that it has alone: `own` makes one of its faults of
-- one that every engine has.
abbrev pub Shared :
    {F : Type 0} → (EngineFault → F) → (Result Status F → Type 0) → Result Status RunFault → Type 0
Shared own Ends (Ok status) = Ends (Ok status)
Shared own Ends (Err (run.Engine f)) = Ends (Err (own f))
Shared own Ends (Err _) = ⊥

-- the answer of an engine that has no other faults
abbrev pub Alone : (Answer → Type 0) → Result Status RunFault → Type 0
Alone Ends = Shared (λ f. f) Ends

-- what an engine does on the text of a scenario, to which it is lent in this way, and on a file
abbrev pub OnFile :
    {A B : Type 0} → (List ℕ → Type 0 → (Plan → A → Type 0) → B → Type 0)
    → (Streams → Plan → A → Type 0) → Known → Known → B → Type 0
OnFile Lends Runs old new answer = (text : List ℕ) × (from : Known) × (to : Known)
    × (let s = streams from to old new in
    Lends text (ReadNothing s × WroteNothing s) (Runs s) answer)

-- what an engine does on the text of a scenario alone
abbrev pub OnText : (Plan → Answer → Type 0) → Known → Known → Answer → Type 0
OnText Runs old new answer = (text : List ℕ) × Lent text (Keeps old new) Runs answer

-- a text is written, or at X8 a prefix of it
abbrev pub PrintsText : List ℕ → Known → Known → Answer → Type 0
PrintsText text old new (Ok status) = Appends old new text × (status ≡ ends.Done)
PrintsText text old new (Err (fault.Trace f)) = (f ≡ Write) × AppendsFront old new text
PrintsText text old new (Err _) = ⊥

-- a rule or another code explained, or all rules in a sentence each
abbrev pub rules_text : Option Entry → List ℕ
rules_text (Some entry) = entry_text entry
rules_text None = list

-- what the engine `order` does on a plan and moments
abbrev pub OnMoments : Form → Slacks → Known → Known → OrderAnswer → Type 0
OnMoments form slacks = OnFile LentText (OrdersInput form slacks)

-- what the engine `probe` does on a plan and a capture
abbrev pub OnCapture : Option ℕ → Known → Known → ProbeAnswer → Type 0
OnCapture skew = OnFile LentCapture (ProbesText skew)

-- what the engine of `races --other` does on a plan and a trace
abbrev pub OnRace : ℕ → Known → Known → Result Other EngineFault → Type 0
OnRace edge = OnFile ReadsLent (λ s p. ReadsInput (Orders edge p) s)

-- its answer, if there is such an order
abbrev pub Reordered : (Result Other EngineFault → Type 0) → Result Status RunFault → Type 0
Reordered Ends (Ok status) = (status ≡ ends.Done) × Ends (Ok other.Written)
Reordered Ends (Err (run.Engine (fault.Beyond edges))) = Ends (Ok (other.Beyond edges))
Reordered Ends (Err (run.Engine f)) = Ends (Err f)
Reordered Ends (Err _) = ⊥

-- what the engine of a task does on a plan and a trace
abbrev pub DoesTask : Task → Streams → Plan → Answer → Type 0
DoesTask (Replay full) = ReplaysInput (line_form full)
DoesTask Check = ChecksInput
DoesTask (Explain edge) = ExplainsInput edge
DoesTask (Shrink edge progress) = ShrinksInput edge
DoesTask (State after) = StatesInput after
DoesTask (Show from to color) = ShowsInput from to color
DoesTask Cycles = ReportsInput
DoesTask Summary = SumsInput
DoesTask Races = ReportsRaces
DoesTask (Walk edge) = PrintsWalkInput edge

-- what the engine of a drive does on a plan
abbrev pub DoesDrive : ℕ → Version → Choice → Known → Known → Plan → Answer → Type 0
DoesDrive edges version InTurn old new = Drives version edges old new
DoesDrive edges version (Drawn seed until) old new = Draws version seed edges until old new
DoesDrive edges version (Sought first last goal progress) old new = λ p answer.
    (found : Found) × (answer ≡ found_answer found)
    × Finds version edges first last goal old new found p answer

-- What the engine of a work does, by what the output held before and holds now, on some text of a
-- scenario, and on some input, given the bytes that it had left before and has left now. (No clause
-- can say what a file gives.)
abbrev pub DoesWork : Work → Known → Known → Result Status RunFault → Type 0
DoesWork (OnTrace task trace) old new = Alone (OnFile LentAsking (DoesTask task) old new)
DoesWork (Checks traces) old new =
    Alone (OnText (ChecksFiles (texts_of traces.items) old new) old new)
DoesWork (Sums traces) old new = Alone (OnText (SumsFiles (texts_of traces.items) old new) old new)
DoesWork (OtherOrder trace edge) old new = Reordered (OnRace edge old new)
DoesWork (Same trace other) old new = Alone (λ answer.
    (text : List ℕ)
    × LentAsking text (Keeps old new) (ComparesFiles trace.now other.now old new) answer)
DoesWork (Order moments slacks places progress) old new =
    Shared order.Engine (OnMoments (form_of places) slacks old new)
DoesWork (Probe capture skew) old new = Shared probe.Engine (OnCapture skew old new)
DoesWork (Drive edges version choice) old new =
    Alone (OnText (Unhindered (goal_of choice) (DoesDrive edges version choice old new)) old new)
DoesWork (Run edges turns version) old new = λ answer.
    (text : List ℕ) × Runs text version edges turns old new answer

-- what the engine of a job does
abbrev pub Does : Job → Known → Known → Result Status RunFault → Type 0
Does Joined old new =
    Alone (λ answer. (from : Known) × (to : Known) × Joins (streams from to old new) answer)
Does OwnVersion old new = Alone (PrintsText VERSION.now old new)
Does (Rules entry) old new = Alone (PrintsText (rules_text entry) old new)
Does (OnScenario scenario work) old new = DoesWork work old new

-- a trace of a job that reads several has a fault
abbrev pub Stops : Job → List ℕ → Fault → Type 0
Stops (OnScenario scenario (Same trace other)) name f =
    (text : List ℕ) × (p : Plan) × (read text ≡ Ok p) × (name ≡ other.now) × SecondStops f
Stops job name f = ⊥

-- a work ends with a fault that it has alone
abbrev pub FailsWork : Work → Known → Known → ProgramFault → Type 0
FailsWork (Checks traces) old new SomeTraces = HasFaulty (texts_of traces.items) old new
FailsWork (Sums traces) old new SomeTraces = LacksFiles (texts_of traces.items) old new
FailsWork (OtherOrder trace edge) old new (NoRace asked) =
    (asked ≡ edge) × OnRace edge old new (Ok other.NoRace)
FailsWork (Order moments slacks places progress) old new (Ordering f) =
    OnMoments (form_of places) slacks old new (Err f)
FailsWork (Probe capture skew) old new (Probing f) = OnCapture skew old new (Err f)
FailsWork (Drive edges version choice) old new (NeverComes why) =
    GivesUp (goal_of choice) old new why
FailsWork work old new f = ⊥

-- a job ends with a fault that it has alone
abbrev pub Fails : Job → Known → Known → ProgramFault → Type 0
Fails (OnScenario scenario work) old new f = FailsWork work old new f
Fails job old new f = ⊥

-- The answer is an engine's. Or a file could not be read, there was no memory for what is passed to
-- the engine, or one of several traces has a fault; then nothing was written.
abbrev pub Hands :
    (Result Status RunFault → Type 0) → (List ℕ → Fault → Type 0) → (ProgramFault → Type 0)
    → Type 0 → Result Status ProgramFault → Type 0
Hands Ends Stops Fails nothing (Ok status) = Ends (Ok status)
Hands Ends Stops Fails nothing (Err (CannotRead name)) = nothing
Hands Ends Stops Fails nothing (Err (TooLong name)) = nothing
Hands Ends Stops Fails nothing (Err (Engine f)) =
    Ends (Err (run.Engine f)) ⊎ ((f ≡ fault.NoMemory) × nothing)
Hands Ends Stops Fails nothing (Err (InTrace name f)) = Stops name.now f × nothing
Hands Ends Stops Fails nothing (Err (Boards f)) = Ends (Err f)
Hands Ends Stops Fails nothing (Err SomeTraces) = Fails SomeTraces
Hands Ends Stops Fails nothing (Err (NoRace edge)) = Fails (NoRace edge)
Hands Ends Stops Fails nothing (Err (NeverComes why)) = Fails (NeverComes why)
Hands Ends Stops Fails nothing (Err (Ordering f)) = Fails (Ordering f)
Hands Ends Stops Fails nothing (Err (Probing f)) = Fails (Probing f)

-- the job is done in this way
abbrev pub IsDone : Job → Known → Known → Result Status ProgramFault → Type 0
IsDone job old new result =
    Hands (Does job old new) (Stops job) (Fails job old new) (Keeps old new) result

-- The output at a fault: nothing was written, or a job for which the words ask ended with the
-- fault.
abbrev pub HasFailed : List (List ℕ) → Known → Known → Type 0
HasFailed words old new = Keeps old new
    ⊎ ((job : Job) × (f : ProgramFault) × Ask words job × IsDone job old new (Err f))

-- What the program does, by its words, its output and its exit status: a job for which the words
-- ask is done without a fault, and the status is the engine's; or there was a fault, and the status
-- is 1.
abbrev pub IsObeyed : List (List ℕ) → Known → Known → ℕ → Type 0
IsObeyed words old new code =
    ((job : Job) × (status : Status) × Ask words job
    × Does job old new (Ok status) × (code ≡ exit_code status))
    ⊎ (HasFailed words old new × (code ≡ 1))
