-- A history that is made once more.
use Rattle.std.proofs.Common.{◌≡◌, List, [], ◌∷◌, ◌++◌, true, false, refl, sym, ap, ◌∙◌, Option, ℕ, ◌≤◌, length, subst}
use Rattle.std.specs.Prelude.{◌==◌, Result, Ok, Err, is_ok, is_err, if◌then◌else◌}
use Rattle.std.specs.Io.KnownBytes.{Appends, Keeps}
use Rattle.vme_model.specs.declared.signals.Edge.{Edge}
use Rattle.vme_model.specs.declared.deliveries.Delivery.{Delivery}
use Rattle.vme_model.specs.declared.refusals.Refused.{Refused}
use Rattle.vme_model.specs.declared.signals.Version.{Version}
use Rattle.vme_model.specs.Plan.{Plan}
use Rattle.vme_model.specs.History.{in_order}
use Rattle.vme_model.specs.Verdict.{State, IsLegal, verdict, made, after}
use Rattle.vme_model.specs.Safe.{IsSafe}
use Rattle.vme_model.specs.Text.{text}
use Rattle.vme_scenario.specs.declared.errors.ScenarioError.{ScenarioError}
use Rattle.vme_trace.specs.declared.Fault.{Fault}
use Rattle.vme_trace.specs.declared.Fault.TheVariants.{Write}
use Rattle.vme_trace.specs.Writing.{AppendsFront}
use Rattle.vme_engines.specs.declared.Status.{Status}
use Rattle.vme_engines.specs.declared.Status.TheVariants.{Done, Limit}
use Rattle.vme_engines.specs.declared.EngineFault.{EngineFault}
use Rattle.vme_engines.specs.declared.EngineFault.TheVariants as fault
use Rattle.vme_run.specs.declared.RunFault.{RunFault}
use Rattle.vme_run.specs.declared.RunFault.TheVariants.{Engine, NotStarted, LogDiffers, NotReplayed}
use Rattle.vme_run.specs.Running.{IsRun, IsRunOn, IsNoRun, IsBench, IsBoardsFault, Runs}
use Rattle.vme_lock.specs.Seats.{Follows}
use Rattle.vme_lock.proofs.Holding.{stepped}

-- an accepted edge goes on
pub followed : (opened b new : State) (e : Edge) (r : Result (Option Delivery) Refused) → Follows opened b → is_err r ≡ false → is_ok r ≡ is_ok (verdict b e) → new ≡ after b e → Follows opened new
followed opened b new e (Ok d) so_far fine accepted state =
    (e ∷ so_far.0, stepped b new e (Ok d) d refl accepted state ∙ ap (λ (x : State). made x e) so_far.1)
followed opened b new e (Err refusal) so_far fine accepted state = absurd (cc)

-- what was made once more is a run
pub run_of : (lent : List ℕ) (version : Version) (n : ℕ) (bench b : State) → IsBench lent version n bench → Follows bench b → IsLegal b.version b.plan b.history → IsSafe b.plan b.history → length b.history ≤ b.max → IsRunOn lent version n b
run_of lent version n bench b begins follows legal safe fits =
    let same_plan : b.plan ≡ begins.0 = ap (λ x. x.plan) follows.1 ∙ ap (λ x. x.plan) begins.2 in
    let same_version : b.version ≡ version = ap (λ x. x.version) follows.1 ∙ ap (λ x. x.version) begins.2 in
    let same_max : b.max ≡ n = ap (λ x. x.max) follows.1 ∙ ap (λ x. x.max) begins.2 in
    record {
      ran = record {
        plan = begins.0;
        read = begins.1;
        legal = subst (λ p. IsLegal version p b.history) same_plan (subst (λ v. IsLegal v b.plan b.history) same_version legal);
        safe = subst (λ p. IsSafe p b.history) same_plan safe;
        within = subst (λ m. length b.history ≤ m) same_max fits;
      };
      of_version = same_version;
    }

-- its trace was written
pub runs_done : (lent : List ℕ) (version : Version) (n made : ℕ) (b : State) (old new : Option (List ℕ)) (status : Status) → IsRunOn lent version n b → Appends old new (text b.version (in_order b.history)) → made ≡ length b.history → status ≡ (if made == n then Limit else Done) → Runs lent version n old new (Ok status)
runs_done lent version n made b old new status on written count is =
    (b.history, on.ran, subst (λ v. Appends old new (text v (in_order b.history))) on.of_version written, is ∙ ap (λ m. if m == n then Limit else Done) count)

-- a front of it
pub runs_cut : (lent : List ℕ) (version : Version) (n : ℕ) (b : State) (old new : Option (List ℕ)) (f : Fault) → IsRunOn lent version n b → f ≡ Write → AppendsFront old new (text b.version (in_order b.history)) → Runs lent version n old new (Err (Engine (fault.Trace f)))
runs_cut lent version n b old new f on is written =
    (b.history, on.ran, is, subst (λ v. AppendsFront old new (text v (in_order b.history))) on.of_version written)

-- nothing
pub runs_not : (lent : List ℕ) (version : Version) (n : ℕ) (old new : Option (List ℕ)) (f : RunFault) → IsNoRun lent f → Keeps old new → Runs lent version n old new (Err f)
runs_not lent version n old new (Engine fault.TooLong) none kept = (none, kept)
runs_not lent version n old new (Engine (fault.Scenario e)) none kept = (none, kept)
runs_not lent version n old new (Engine fault.NoMemory) none kept = (none, kept)
runs_not lent version n old new (Engine fault.CannotRead) none kept = absurd none
runs_not lent version n old new (Engine (fault.Trace f)) none kept = absurd none
runs_not lent version n old new NotStarted none kept = (none, kept)
runs_not lent version n old new (LogDiffers driver at) none kept = (none, kept)
runs_not lent version n old new (NotReplayed at) none kept = (none, kept)

-- the boards came to no history
pub no_run_of : (lent : List ℕ) (f : RunFault) → IsBoardsFault f → IsNoRun lent f
no_run_of lent (Engine fault.TooLong) none = absurd none
no_run_of lent (Engine (fault.Scenario e)) none = absurd none
no_run_of lent (Engine fault.NoMemory) none = tt
no_run_of lent (Engine fault.CannotRead) none = absurd none
no_run_of lent (Engine (fault.Trace f)) none = absurd none
no_run_of lent NotStarted none = tt
no_run_of lent (LogDiffers driver at) none = tt
no_run_of lent (NotReplayed at) none = absurd none
