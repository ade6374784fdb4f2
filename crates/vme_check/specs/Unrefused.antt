-- The edges of a trace that a check has judged while all of them are accepted, and the first
-- refusal among answers.
use Rattle.std.specs.Prelude.{◌≡◌, ◌+◌, ◌∷◌, [], ℕ, List, Option, Some, None, Result, Ok, Err, length}
use Rattle.vme_model.specs.declared.deliveries.Delivery.{Delivery}
use Rattle.vme_model.specs.declared.refusals.Refused.{Refused}
use Rattle.vme_model.specs.declared.signals.Edge.{Edge}
use Rattle.vme_model.specs.declared.signals.Version.{Version}
use Rattle.vme_model.specs.Plan.{Plan}
use Rattle.vme_model.specs.Verdict.{State, kept}
use Rattle.vme_reading.specs.Outcomes.{bench}
use Rattle.vme_reading.specs.Refusals.{first_refusal}

-- These edges of a trace of this version were judged, and all are accepted.
pub record AreAccepted (p : Plan) (v : Version) (es : List Edge) (b : State) (n : ℕ) : Type 0 where
  pub unrefused : first_refusal 1 (bench p v) es ≡ None
  pub bus : b ≡ kept (bench p v) es
  pub judged : n ≡ length es

-- the first refusal, and the number of its edge
abbrev pub first_refused_of :
    ℕ → List (Result (Option Delivery) Refused) → Option (ℕ × Refused)
first_refused_of n [] = None
first_refused_of n (Ok _ ∷ xs) = first_refused_of (n + 1) xs
first_refused_of n (Err refused ∷ xs) = Some (n, refused)
