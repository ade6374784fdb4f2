-- The first edge of a trace that is refused.
use Rattle.std.specs.Prelude.{◌≡◌, ◌+◌, ◌∷◌, [], ℕ, List, Option, Some, None, Ok, Err}
use Rattle.vme_model.specs.declared.refusals.Refused.{Refused}
use Rattle.vme_model.specs.declared.signals.Version.{Version}
use Rattle.vme_model.specs.declared.signals.Edge.{Edge}
use Rattle.vme_model.specs.Plan.{Plan}
use Rattle.vme_model.specs.Verdict.{State, Judgement, verdict, after}
use Rattle.vme_model.specs.Text.{Reading}
use Rattle.vme_reading.specs.Outcomes.{bench}

abbrev pub or_refusal : ℕ → Judgement → Option (ℕ × Refused) → Option (ℕ × Refused)
or_refusal n (Ok _) later = later
or_refusal n (Err refused) later = Some (n, refused)

-- the first edge that is refused, and why; the edges are counted from n
abbrev pub first_refusal : ℕ → State → List Edge → Option (ℕ × Refused)
first_refusal n b [] = None
first_refusal n b (e ∷ es) = or_refusal n (verdict b e) (first_refusal (n + 1) (after b e) es)

-- the first refusal among edges, whose trace names its version before the first of them
abbrev pub refusal_of : Plan → Option Version → List Edge → Option (ℕ × Refused)
refusal_of p None es = None
refusal_of p (Some version) es = first_refusal 1 (bench p version) es

abbrev pub IsUnrefused : Plan → Reading → Type 0
IsUnrefused p r = refusal_of p r.version r.edges ≡ None
