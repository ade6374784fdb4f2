-- A trace that is read up to the edge that is asked for, edge by edge.
use Rattle.std.specs.Prelude.{◌≡◌, ◌+◌, ◌++◌, ◌∷◌, [], ℕ, List, Bool, true, false, is_ok, length, Option, Some, None}
use Rattle.vme_model.specs.declared.signals.Version.{Version}
use Rattle.vme_model.specs.declared.signals.Edge.{Edge}
use Rattle.vme_model.specs.Plan.{Plan}
use Rattle.vme_model.specs.Verdict.{verdict, kept}
use Rattle.vme_reading.specs.declared.seeking.Found.{Found}
use Rattle.vme_reading.specs.declared.seeking.Found.TheVariants.{Legal, Beyond}
use Rattle.vme_reading.specs.Outcomes.{bench}
use Rattle.vme_reading.specs.Refusals.{first_refusal}
use Rattle.vme_reading.specs.Seeking.{IsUnasked}

-- how a command stands behind these edges of a trace of a version, on a plan
abbrev pub Standing : Type 0 → Type 1
Standing S = Plan → Version → List Edge → S → Type 0

-- behind these edges, this is the one that is asked for
abbrev pub IsNext : Option ℕ → Plan → Version → List Edge → Edge → Type 0
IsNext (Some asked) p v front e = asked ≡ length front + 1
IsNext None p v front e =
    (first_refusal 1 (bench p v) front ≡ None)
    × (is_ok (verdict (kept (bench p v) front) e) ≡ false)

-- these edges were passed, and none of them is asked for
pub record HasPassed
    {S : Type 0} (Stands : Standing S) (asked : Option ℕ) (p : Plan) (v : Version)
    (es : List Edge) (judged : ℕ) (at : S)
    : Type 0 where
  pub stands : Stands p v es at
  pub count : judged ≡ length es
  pub unasked : IsUnasked asked p (Some v) es

-- the next edge is the one that is asked for, or was passed too
abbrev pub Meets :
    {S : Type 0} → Standing S → Option ℕ → Plan → Version → List Edge → Edge → ℕ → S → Bool
    → Type 0
Meets Stands asked p v es e judged at true =
    HasPassed Stands asked p v es judged at × IsNext asked p v es e
Meets Stands asked p v es e judged at false =
    HasPassed Stands asked p v (es ++ e ∷ []) judged at

-- the edge that is asked for is one of these; those before it were passed
pub record ComesTo
    {S : Type 0} (Stands : Standing S) (asked : Option ℕ) (p : Plan) (v : Version)
    (before es : List Edge) (judged : ℕ) (at : S) (e : Edge)
    : Type 0 where
  pub front : List Edge
  pub rest : List Edge
  pub split : es ≡ front ++ e ∷ rest
  pub passed : HasPassed Stands asked p v (before ++ front) judged at
  pub next : IsNext asked p v (before ++ front) e

-- it is one of these, or all were passed
abbrev pub Seeks :
    {S : Type 0} → Standing S → Option ℕ → Plan → Version → List Edge → List Edge → ℕ → S
    → Option Edge → Type 0
Seeks Stands asked p v before es judged at (Some e) = ComesTo Stands asked p v before es judged at e
Seeks Stands asked p v before es judged at None =
    HasPassed Stands asked p v (before ++ es) judged at

-- what is found in a whole trace of so many edges, if none of them is asked for
abbrev pub ended : {A : Type 0} → Option ℕ → ℕ → Found A
ended None edges = Legal edges
ended (Some asked) edges = Beyond edges
