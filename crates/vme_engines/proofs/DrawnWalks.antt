-- The walk of a seed, and what was written of it.
use Rattle.std.proofs.Common.{◌≡◌, refl, ◌∙◌, ap, subst, ℕ, ◌≤◌, List, length, Option, Ok, Err, ◌==◌, if◌then◌else◌}
use Rattle.std.specs.Io.KnownBytes.{Appends}
use Rattle.vme_model.specs.declared.signals.Version.{Version}
use Rattle.vme_model.specs.declared.signals.Edge.{Edge}
use Rattle.vme_model.specs.Plan.{Plan}
use Rattle.vme_model.specs.Accepted.{IsAccepted}
use Rattle.vme_model.specs.History.{in_order}
use Rattle.vme_model.specs.Safe.{IsSafe, IsOrderly}
use Rattle.vme_model.specs.Verdict.{State, IsLegal}
use Rattle.vme_model.specs.Report.{trace_limit}
use Rattle.vme_model.specs.Text.{text}
use Rattle.vme_scenario.specs.Format.{scenario}
use Rattle.vme_trace.specs.declared.Fault.{Fault}
use Rattle.vme_trace.specs.declared.Fault.TheVariants.{Write}
use Rattle.vme_trace.specs.Writing.{AppendsFront}
use Rattle.vme_draws.specs.Walks.{at_start, walked}
use Rattle.vme_draws.proofs.Walked.{IsOn, stays_on}
use Rattle.vme_engines.specs.declared.Status.{Status}
use Rattle.vme_engines.specs.declared.Status.TheVariants.{Done, Limit}
use Rattle.vme_engines.specs.declared.EngineFault.TheVariants as fault
use Rattle.vme_engines.specs.Outcomes.{bench}
use Rattle.vme_engines.specs.Drawing.{walk, walk_text, Draws, DrawsSafely}
use Rattle.vme_engines.proofs.LegalTrace.{legal_trace}

module _ (p : Plan) (version : Version) (seed n : ℕ) (b : State) (is : b ≡ (walked n (at_start (bench p version) seed)).state) where
  on : IsOn version p (walked n (at_start (bench p version) seed))
  on = stays_on version p n (at_start (bench p version) seed) (record { version = refl; plan = refl })

  version_is : b.version ≡ version
  version_is = ap (λ (s : State). s.version) is ∙ on.version

  plan_is : b.plan ≡ p
  plan_is = ap (λ (s : State). s.plan) is ∙ on.plan

  history_is : b.history ≡ walk p version seed n
  history_is = ap (λ (s : State). s.history) is

  text_is : text b.version (in_order b.history) ≡ walk_text p version seed n
  text_is = ap (λ v. text v (in_order b.history)) version_is ∙ ap (λ h. text version (in_order h)) history_is

  pub draws_done : (old new : Option (List ℕ)) (status : Status) → Appends old new (text b.version (in_order b.history)) → IsLegal b.version b.plan b.history → IsAccepted b.plan
      → length b.history ≤ trace_limit → status ≡ (if length b.history == n then Limit else Done) → Draws version seed n old new p (Ok status)
  draws_done old new status w legal accepted fits ends =
      let is_legal : IsLegal version p (walk p version seed n) =
      subst (IsLegal version p) history_is (subst (λ (q : Plan). IsLegal version q b.history) plan_is (subst (λ (v : Version). IsLegal v b.plan b.history) version_is legal)) in
      let few : length (walk p version seed n) ≤ trace_limit = subst (λ (h : List Edge). length h ≤ trace_limit) history_is fits in (
        subst (Appends old new) text_is w,
        is_legal,
        legal_trace p version (walk p version seed n) (subst IsAccepted plan_is accepted) is_legal few,
        ends ∙ ap (λ h. if length h == n then Limit else Done) history_is,
      )

  pub draws_cut : (old new : Option (List ℕ)) (f : Fault) → f ≡ Write → AppendsFront old new (text b.version (in_order b.history)) → Draws version seed n old new p (Err (fault.Trace f))
  draws_cut old new f e w = (e, subst (AppendsFront old new) text_is w)

  pub draws_safely : (old : List ℕ) → scenario old ≡ Ok p → IsSafe b.plan b.history → IsOrderly b.version b.plan b.history → DrawsSafely old version seed n
  draws_safely old read safe orderly = (
    p,
    read,
    subst (IsSafe p) history_is (subst (λ (q : Plan). IsSafe q b.history) plan_is safe),
    subst (IsOrderly version p) history_is (subst (λ (q : Plan). IsOrderly version q b.history) plan_is (subst (λ (v : Version). IsOrderly v b.plan b.history) version_is orderly)),
  )
