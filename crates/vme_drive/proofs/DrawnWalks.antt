-- The walk of a seed, and what was written of it.
use Rattle.std.proofs.Common.{◌≡◌, refl, ◌∙◌, ap, subst, ℕ, ◌≤◌, List, length, Option, Ok}
use Rattle.std.specs.Io.KnownBytes.{Appends}
use Rattle.vme_model.specs.declared.signals.Version.{Version}
use Rattle.vme_model.specs.declared.signals.Edge.{Edge}
use Rattle.vme_model.specs.Plan.{Plan}
use Rattle.vme_model.specs.Accepted.{IsAccepted}
use Rattle.vme_model.specs.Safe.{IsSafe, IsOrderly}
use Rattle.vme_model.specs.Verdict.{State, IsLegal}
use Rattle.vme_model.specs.Report.{trace_limit}
use Rattle.vme_seeds.specs.Walks.{at_start}
use Rattle.vme_seeds.proofs.Walked.{IsOn}
use Rattle.vme_goals.specs.declared.goals.Goal.{Goal}
use Rattle.vme_reading.specs.declared.Status.{Status}
use Rattle.vme_drive.specs.declared.seeks.Ending.{Ending}
use Rattle.vme_drive.specs.declared.seeks.Ending.TheVariants.{Over, Came, Missed}
use Rattle.vme_reading.specs.Outcomes.{bench}
use Rattle.vme_drive.specs.Drawing.{walk, walk_text, EndsRightly, status_to, Draws, WalksSafely}
use Rattle.vme_reading.proofs.LegalTrace.{legal_trace}
use Rattle.vme_drive.proofs.SoughtGoals.{walk_stays, refused_end}

module _ (p : Plan) (version : Version) (seed n : ℕ) (g : Option Goal) (b : State) (ending : Ending) (is : b ≡ (walk p version seed n g).walk.state)
    (ends : ending ≡ (walk p version seed n g).ending) where
  on : IsOn version p (walk p version seed n g).walk
  on = walk_stays version p g n (at_start (bench p version) seed) (record { version = refl; plan = refl })

  version_is : b.version ≡ version
  version_is = ap (λ (s : State). s.version) is ∙ on.version

  plan_is : b.plan ≡ p
  plan_is = ap (λ (s : State). s.plan) is ∙ on.plan

  history_is : b.history ≡ (walk p version seed n g).walk.state.history
  history_is = ap (λ (s : State). s.history) is

  module _ (legal : IsLegal b.version b.plan b.history) (accepted : IsAccepted b.plan) (fits : length b.history ≤ trace_limit) where
    is_legal : IsLegal version p (walk p version seed n g).walk.state.history
    is_legal = subst (IsLegal version p) history_is (subst (λ (q : Plan). IsLegal version q b.history) plan_is (subst (λ (v : Version). IsLegal v b.plan b.history) version_is legal))

    rightly : (x : Ending) → (walk p version seed n g).ending ≡ x → EndsRightly p version g (walk p version seed n g).walk.state x
    rightly Over same = legal_trace p version _ (subst IsAccepted plan_is accepted) is_legal (subst (λ (h : List Edge). length h ≤ trace_limit) history_is fits)
    rightly Came same = legal_trace p version _ (subst IsAccepted plan_is accepted) is_legal (subst (λ (h : List Edge). length h ≤ trace_limit) history_is fits)
    rightly (Missed e) same = refused_end g n (at_start (bench p version) seed) e same

    pub draws_done : (old new : Option (List ℕ)) (status : Status) → Appends old new (walk_text p version seed n g) → status ≡ status_to g n (length b.history) ending
        → Draws version seed n g old new p (Ok status)
    draws_done old new status w said = (
      w,
      is_legal,
      rightly (walk p version seed n g).ending refl,
      said ∙ ap (λ h. status_to g n (length h) ending) history_is ∙ ap (status_to g n (length (walk p version seed n g).walk.state.history)) ends,
    )

  pub walks_safely : IsSafe b.plan b.history → IsOrderly b.version b.plan b.history → WalksSafely p version seed n g
  walks_safely safe orderly = (
    subst (IsSafe p) history_is (subst (λ (q : Plan). IsSafe q b.history) plan_is safe),
    subst (IsOrderly version p) history_is (subst (λ (q : Plan). IsOrderly version q b.history) plan_is (subst (λ (v : Version). IsOrderly v b.plan b.history) version_is orderly)),
  )
