-- The answer of an engine, as a job passes it on.
use Rattle.std.proofs.Common.{◌≡◌, inl, inr, ℕ, Bool, List, Result, Ok, Err, refl, subst}
use Rattle.std.specs.Io.KnownBytes.{Keeps}
use Rattle.std.specs.Borrow.{Bor}
use Rattle.vme_model.specs.declared.signals.Version.{Version}
use Rattle.vme_trace.specs.declared.Fault.{Fault}
use Rattle.vme_reading.specs.declared.Status.{Status}
use Rattle.vme_reading.specs.declared.EngineFault.TheVariants as fault
use Rattle.vme_reading.specs.Streams.{ReadNothing, WroteNothing, streams}
use Rattle.vme_reading.specs.Outcomes.{Answer, LentAsking}
use Rattle.vme_replay.specs.Joining.{Joins}
use Rattle.vme_reading.specs.Readings.{ReadsInput, ReadsLent}
use Rattle.vme_reading.specs.declared.EngineFault.{EngineFault}
use Rattle.vme_races.specs.Other.{Orders}
use Rattle.vme_races.specs.declared.other.OtherOrder.{OtherOrder as Other}
use Rattle.vme_races.specs.declared.other.OtherOrder.TheVariants as other
use Rattle.vme_run.specs.declared.RunFault.{RunFault}
use Rattle.vme_run.specs.declared.RunFault.TheVariants as run
use Rattle.vme_run.specs.Running.{Runs}
use Rattle.vme_moments.specs.declared.slacks.Slacks.{Slacks}
use Rattle.vme_order.specs.declared.Form.{Form}
use Rattle.vme_order.specs.declared.OrderingFault.TheVariants as order
use Rattle.vme_order.specs.Ordering.{Answer as OrderAnswer, LentText, OrdersInput}
use Rattle.vme_command_line.specs.declared.Job.TheVariants.{Joined, OnScenario}
use Rattle.vme_command_line.specs.declared.Task.{Task}
use Rattle.vme_command_line.specs.declared.Work.TheVariants.{OnTrace, OtherOrder, Order, Run}
use Rattle.vme_program.specs.declared.faults.ProgramFault.{ProgramFault}
use Rattle.vme_program.specs.Done.{Alone, Does, DoesTask, Fails, Hands, IsDone, Known, OnFile, Stops}
use Rattle.vme_program.specs.Names.{fault_named, form_of, answer_named, order_answer_named, other_answer_named, run_answer_named}

-- a fault that every engine has
fault_handed : (Ends : Result Status RunFault → Type 0) (Stops : List ℕ → Fault → Type 0) (Fails : ProgramFault → Type 0) (nothing : Type 0) (name : Bor (List ℕ)) (f : EngineFault)
    → Ends (Err (run.Engine f))
    → (Ends (Err (run.Engine fault.CannotRead)) → nothing) → (Ends (Err (run.Engine fault.TooLong)) → nothing) → Hands Ends Stops Fails nothing (Err (fault_named name f))
fault_handed Ends Stops Fails nothing name fault.CannotRead does unread long = unread does
fault_handed Ends Stops Fails nothing name fault.TooLong does unread long = long does
fault_handed Ends Stops Fails nothing name (fault.Scenario e) does unread long = inl does
fault_handed Ends Stops Fails nothing name (fault.Trace f) does unread long = inl does
fault_handed Ends Stops Fails nothing name (fault.Beyond edges) does unread long = inl does
fault_handed Ends Stops Fails nothing name fault.NoMemory does unread long = inl does

-- the answer of an engine that has no other faults
pub handed : (Stops : List ℕ → Fault → Type 0) (Fails : ProgramFault → Type 0) (Does : Answer → Type 0) (nothing : Type 0) (name : Bor (List ℕ)) (answer : Answer) → Does answer
    → (Does (Err fault.CannotRead) → nothing) → (Does (Err fault.TooLong) → nothing) → Hands (Alone Does) Stops Fails nothing (answer_named name answer)
handed Stops Fails Does nothing name (Ok status) does unread long = does
handed Stops Fails Does nothing name (Err f) does unread long = fault_handed (Alone Does) Stops Fails nothing name f does unread long

pub joined_done : (name : Bor (List ℕ)) (from to old new : Known) (answer : Answer) → Joins (streams from to old new) answer
    → IsDone Joined old new (answer_named name answer)
joined_done name from to old new answer does =
    handed _ (λ f. ⊥) (λ a. (x : Known) × (y : Known) × Joins (streams x y old new) a) (Keeps old new) name answer (from, to, does)
    (λ h. elim h.2 [ inl found ↦ absurd found.4 | inr none ↦ none.2 ])
    (λ h. elim h.2 [ inl found ↦ found.4.1 | inr none ↦ absurd none.3 ])

-- a task with a trace
pub on_trace : (scenario trace : Bor (List ℕ)) (text : List ℕ) (task : Task) (from to old new : Known) (answer : Answer)
    → LentAsking text (ReadNothing (streams from to old new) × WroteNothing (streams from to old new)) (DoesTask task (streams from to old new)) answer
    → IsDone (OnScenario scenario (OnTrace task trace)) old new (answer_named scenario answer)
on_trace scenario trace text task from to old new answer does =
    handed (Stops (OnScenario scenario (OnTrace task trace))) (Fails (OnScenario scenario (OnTrace task trace)) old new) (OnFile LentAsking (DoesTask task) old new) (Keeps old new) scenario answer
    (text, from, to, does) (λ h. absurd h.3) (λ h. h.3.1.1)

pub run_done : (scenario : Bor (List ℕ)) (text : List ℕ) (edges turns : ℕ) (version : Version) (old new : Known) (answer : Result Status RunFault)
    → Runs text version edges turns old new answer → IsDone (OnScenario scenario (Run edges turns version)) old new (run_answer_named scenario answer)
run_done scenario text edges turns version old new (Ok status) does = (text, does)
run_done scenario text edges turns version old new (Err (run.Engine f)) does =
    fault_handed (Does (OnScenario scenario (Run edges turns version)) old new) (Stops (OnScenario scenario (Run edges turns version))) (Fails (OnScenario scenario (Run edges turns version)) old new)
    (Keeps old new) scenario f
    (text, does) (λ h. absurd h.1) (λ h. h.1.1)
run_done scenario text edges turns version old new (Err run.NotStarted) does = (text, does)
run_done scenario text edges turns version old new (Err (run.LogDiffers driver at)) does = (text, does)
run_done scenario text edges turns version old new (Err (run.NotReplayed at)) does = absurd does

-- the other order of a race
pub other_done : (scenario trace : Bor (List ℕ)) (text : List ℕ) (edge : ℕ) (from to old new : Known) (answer : Result Other EngineFault)
    → ReadsLent text (ReadNothing (streams from to old new) × WroteNothing (streams from to old new)) (λ p. ReadsInput (Orders edge p) (streams from to old new)) answer
    → IsDone (OnScenario scenario (OtherOrder trace edge)) old new (other_answer_named scenario edge answer)
other_done scenario trace text edge from to old new (Ok other.Written) does = (refl, (text, from, to, does))
other_done scenario trace text edge from to old new (Ok other.NoRace) does = (refl, (text, from, to, does))
other_done scenario trace text edge from to old new (Ok (other.Beyond n)) does = inl (text, from, to, does)
other_done scenario trace text edge from to old new (Err fault.CannotRead) does = absurd does
other_done scenario trace text edge from to old new (Err fault.TooLong) does = does.1.1
other_done scenario trace text edge from to old new (Err (fault.Scenario e)) does = inl (text, from, to, does)
other_done scenario trace text edge from to old new (Err (fault.Trace f)) does = inl (text, from, to, does)
other_done scenario trace text edge from to old new (Err (fault.Beyond n)) does = absurd does
other_done scenario trace text edge from to old new (Err fault.NoMemory) does = inl (text, from, to, does)

-- an order of moments, written in a form that is that of the job
pub order_done : (scenario moments : Bor (List ℕ)) (text : List ℕ) (slacks : Slacks) (places progress : Bool) (form : Form) (from to old new : Known) (answer : OrderAnswer) → form ≡ form_of places
    → LentText text (ReadNothing (streams from to old new) × WroteNothing (streams from to old new)) (OrdersInput form slacks (streams from to old new)) answer
    → IsDone (OnScenario scenario (Order moments slacks places progress)) old new (order_answer_named scenario answer)
order_done scenario moments text slacks places progress form from to old new answer is does =
    by answer (subst (λ (f : Form). LentText text (ReadNothing (streams from to old new) × WroteNothing (streams from to old new)) (OrdersInput f slacks (streams from to old new)) answer) is does)
  where
    by : (answer : OrderAnswer) → LentText text (ReadNothing (streams from to old new) × WroteNothing (streams from to old new)) (OrdersInput (form_of places) slacks (streams from to old new)) answer
        → IsDone (OnScenario scenario (Order moments slacks places progress)) old new (order_answer_named scenario answer)
    by (Ok status) does = (text, from, to, does)
    by (Err (order.Engine f)) does =
        fault_handed (Does (OnScenario scenario (Order moments slacks places progress)) old new) (Stops (OnScenario scenario (Order moments slacks places progress)))
        (Fails (OnScenario scenario (Order moments slacks places progress)) old new) (Keeps old new) scenario f (text, from, to, does) (λ h. absurd h.3.3.2) (λ h. h.3.1.1)
    by (Err (order.Moments f)) does = (text, from, to, does)
    by (Err (order.NoBoard slot)) does = (text, from, to, does)
    by (Err order.TooManyOrders) does = (text, from, to, does)
