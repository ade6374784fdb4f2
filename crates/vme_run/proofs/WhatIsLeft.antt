-- What a run leaves of the boards' history.
use Rattle.std.proofs.Common.{◌≡◌, ℕ, ◌≤◌, arith, List, length, sym, ap, ◌∙◌, subst, Option}
use Rattle.std.specs.Prelude.{min, Result, Ok, Err}
use Rattle.std.specs.Io.KnownBytes.{Appends}
use Rattle.std.proofs.KnownBytes.{Keeps-refl}
use Rattle.std.proofs.Math.Nat.{min-le_left}
use Rattle.vme_model.specs.declared.signals.Version.{Version}
use Rattle.vme_model.specs.declared.signals.Driver.{Driver}
use Rattle.vme_model.specs.Plan.{Plan, drivers}
use Rattle.vme_model.specs.History.{in_order}
use Rattle.vme_model.specs.Verdict.{State, IsLegal}
use Rattle.vme_model.specs.Safe.{IsSafe}
use Rattle.vme_model.specs.Text.{text}
use Rattle.vme_model.specs.Report.{at_power_up}
use Rattle.vme_trace.specs.Writing.{AppendsFront}
use Rattle.vme_reading.specs.declared.Status.{Status}
use Rattle.vme_reading.specs.declared.EngineFault.TheVariants as fault
use Rattle.vme_run.specs.declared.RunFault.{RunFault}
use Rattle.vme_run.specs.declared.RunFault.TheVariants.{Engine, NotStarted, LogDiffers}
use Rattle.vme_run.specs.Running.{IsMade, IsRun, AreHandedBack, HasOtherLogs, Runs}
use Rattle.vme_run.specs.Between.{IsRead, IsGrown, IsPlayed, HasGrownApart, IsNotPlayed, IsWritten}

-- what can be made is no more than what is requested
pub fits : (n others m : ℕ) → m ≡ min n others → m ≤ n
fits n others m is = subst (λ x. x ≤ n) (sym is) (min-le_left n others)

-- a backplane that grew has a run's edges
made_of : (version : Version) (p : Plan) (m n turns : ℕ) (b : State) → m ≤ n → IsGrown turns (at_power_up version p m) b → IsMade version n turns p b.history
made_of version p m n turns b fits grown =
    let same_plan : b.plan ≡ p = ap (λ x. x.plan) grown.0.1 in
    let same_version : b.version ≡ version = ap (λ x. x.version) grown.0.1 in
    let same_max : b.max ≡ m = ap (λ x. x.max) grown.0.1 in
    record {
      legal = subst (λ q. IsLegal version q b.history) same_plan (subst (λ v. IsLegal v b.plan b.history) same_version grown.1);
      safe = subst (λ q. IsSafe q b.history) same_plan grown.2;
      within = omega (arith, same_max, grown.3, fits);
      in_turns = omega (arith, grown.4);
    }

pub run_of : (version : Version) (p : Plan) (m n turns : ℕ) (b : State) → m ≤ n → IsPlayed turns (at_power_up version p m) b → IsRun version n turns p b.history
run_of version p m n turns b fits played = (made_of version p m n turns b fits played.0, played.1)

-- some logs are not the drivers' edges
other_logs : (version : Version) (p : Plan) (m n turns : ℕ) (b : State) (driver : Driver) (at : ℕ) → m ≤ n → IsGrown turns (at_power_up version p m) b →
    HasGrownApart turns (at_power_up version p m) b driver at → HasOtherLogs version n turns p driver at
other_logs version p m n turns b driver at fits grown apart =
    let many : length b.history ≡ apart.1 = omega (arith, apart.3) in
    let back : AreHandedBack turns (length (drivers p)) (length b.history) apart.0 = record { each = apart.2.each; short = apart.2.short; all = apart.2.all ∙ sym many } in
    (b.history, apart.0, made_of version p m n turns b fits grown, back, apart.4)

-- the version that was passed in
version_of : (version : Version) (p : Plan) (n turns : ℕ) (b : State) → IsPlayed turns (at_power_up version p n) b → b.version ≡ version
version_of version p n turns b played = ap (λ x. x.version) played.0.0.1

-- nothing is left if memory runs out
pub runs_out : (lent : List ℕ) (version : Version) (n turns : ℕ) (p : Plan) (old : Option (List ℕ)) → IsRead lent p → Runs lent version n turns old old (Err (Engine fault.NoMemory))
runs_out lent version n turns p old is = (p, is.short, is.read, Keeps-refl _)

module _ (lent : List ℕ) (version : Version) (m n turns : ℕ) (fits : m ≤ n) (p : Plan) (old : Option (List ℕ)) (is : IsRead lent p) where
  -- nothing is left if the boards were not played
  pub not_played_from : (f : RunFault) → IsNotPlayed turns (at_power_up version p m) f → Runs lent version n turns old old (Err f)
  not_played_from (Engine fault.NoMemory) none = (p, is.short, is.read, Keeps-refl _)
  not_played_from NotStarted none = (p, is.short, is.read, Keeps-refl _)
  not_played_from (LogDiffers driver at) none = (p, is.short, is.read, (other_logs version p m n turns none.0 driver at fits none.1 none.2, Keeps-refl _))
  not_played_from f none = absurd none

  -- the trace was written, or a prefix of it
  pub written : (new : Option (List ℕ)) (b : State) (r : Result Status RunFault) → IsPlayed turns (at_power_up version p m) b → IsWritten b n old new r → Runs lent version n turns old new r
  written new b (Ok status) played done =
      let appended = subst (λ v. Appends old new (text v (in_order b.history))) (version_of version p m turns b played) done.0 in
      (p, is.short, is.read, (b.history, run_of version p m n turns b fits played, appended, done.1))
  written new b (Err (Engine (fault.Trace f))) played cut =
      let front = subst (λ v. AppendsFront old new (text v (in_order b.history))) (version_of version p m turns b played) cut.1 in
      (p, is.short, is.read, (b.history, run_of version p m n turns b fits played, cut.0, front))
  written new b r played none = absurd none

-- the first of two backplanes was not played
pub unplayed : (version : Version) (p : Plan) (m turns : ℕ) (opened : State) (f : RunFault) →
    opened ≡ at_power_up version p m → IsNotPlayed turns opened f → IsNotPlayed turns (at_power_up version p m) f
unplayed version p m turns opened f first none = subst (λ (o : State). IsNotPlayed turns o f) first none

-- or there was no memory for them
pub unopened : (turns : ℕ) (opened : State) (f : RunFault) → f ≡ Engine fault.NoMemory → IsNotPlayed turns opened f
unopened turns opened f is = subst (λ (e : RunFault). IsNotPlayed turns opened e) (sym is) tt
