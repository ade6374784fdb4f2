-- A trace that is read up to the edge that is asked for.
use Rattle.std.specs.Prelude.{◌≡◌, ◌==◌, ◌++◌, ◌∷◌, ℕ, Bool, not, List, is_ok, Option, Some, None, Result, Ok, Err}
use Rattle.vme_model.specs.declared.signals.Version.{Version}
use Rattle.vme_model.specs.declared.signals.Edge.{Edge}
use Rattle.vme_model.specs.Plan.{Plan}
use Rattle.vme_model.specs.Verdict.{State, kept, verdict}
use Rattle.vme_trace.specs.declared.Fault.{Fault}
use Rattle.vme_reading.specs.declared.EngineFault.{EngineFault}
use Rattle.vme_reading.specs.declared.EngineFault.TheVariants as fault
use Rattle.vme_reading.specs.Outcomes.{Answer, bench}
use Rattle.vme_following.specs.Explaining.{IsUnasked}
use Rattle.vme_following.specs.Followed.{IsNext}
use Rattle.vme_shrink.specs.declared.shrinks.Written.{Written}
use Rattle.vme_shrink.specs.declared.shrinks.Written.TheVariants.{Text, Beyond}

-- the next edge, which has this number, is the one that is asked for
abbrev pub is_asked : Option ℕ → ℕ → State → Edge → Bool
is_asked (Some wanted) n b e = wanted == n
is_asked None n b e = not (is_ok (verdict b e))

-- what was kept of these edges of a trace of this version, on a plan
abbrev pub IsFront : Plan → Version → List Edge → State → Type 0
IsFront p v es front = front ≡ kept (bench p v) es

-- behind edges that are not asked for, the one that is asked for is one of these
pub record IsMet
    (asked : Option ℕ) (p : Plan) (v : Version) (before es : List Edge) (now : State) (e : Edge)
    : Type 0 where
  pub front : List Edge
  pub rest : List Edge
  pub split : es ≡ front ++ e ∷ rest
  pub next : IsNext asked p v (before ++ front) e
  pub kept : IsFront p v (before ++ front) now

-- it is met among these edges, or it is none of them
abbrev pub Seeks :
    Option ℕ → Plan → Version → List Edge → List Edge → State → Option Edge → Type 0
Seeks asked p v before es now (Some e) =
    IsUnasked asked p (Some v) before → IsMet asked p v before es now e
Seeks asked p v before es now None =
    IsFront p v (before ++ es) now
    × (IsUnasked asked p (Some v) before → IsUnasked asked p (Some v) (before ++ es))

-- the answer of a command that writes a trace
abbrev pub written_answer : Result Written Fault → Answer
written_answer (Ok (Text status)) = Ok status
written_answer (Ok (Beyond edges)) = Err (fault.Beyond edges)
written_answer (Err f) = Err (fault.Trace f)

-- the answer of a command that writes a trace, if it may have no plan
abbrev pub written_status : Result Written EngineFault → Answer
written_status (Ok (Text status)) = Ok status
written_status (Ok (Beyond edges)) = Err (fault.Beyond edges)
written_status (Err f) = Err f
