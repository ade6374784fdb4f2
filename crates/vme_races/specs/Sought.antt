-- A trace that is read up to the edge that is asked for.
use Rattle.std.specs.Prelude.{◌≡◌, ◌+◌, ◌++◌, ◌∷◌, ℕ, List, length, Option, Some, None, Result, Ok, Err}
use Rattle.std.specs.Io.KnownBytes.{Appends}
use Rattle.vme_model.specs.declared.signals.Version.{Version}
use Rattle.vme_model.specs.declared.signals.Edge.{Edge}
use Rattle.vme_model.specs.Plan.{Plan}
use Rattle.vme_trace.specs.declared.Fault.{Fault}
use Rattle.vme_trace.specs.Writing.{AppendsFront}
use Rattle.vme_reading.specs.declared.EngineFault.{EngineFault}
use Rattle.vme_reading.specs.declared.EngineFault.TheVariants as fault
use Rattle.vme_reading.specs.declared.Status.{Status}
use Rattle.vme_following.specs.Explaining.{IsUnasked}
use Rattle.vme_reading.specs.Outcomes.{Answer}
use Rattle.vme_races.specs.declared.asked.Printed.{Printed}
use Rattle.vme_races.specs.declared.asked.Printed.TheVariants.{Beyond, Line}
use Rattle.vme_races.specs.declared.racing.Racing.{Racing}
use Rattle.vme_races.specs.declared.walks.Walk.{Walk}
use Rattle.vme_races.specs.Asked.{IsLineOf}
use Rattle.vme_races.specs.Kept.{IsKept}

-- these edges of a trace were taken in, whatever their walks are
abbrev pub AreTaken : Plan → Version → List Edge → Racing → Type 0
AreTaken p v es now = (walks : List Walk) × IsKept p v es walks now

-- the edge that has this number is one of these
pub record IsMet
    (asked : ℕ) (p : Plan) (v : Version) (before es : List Edge) (now : Racing) (e : Edge)
    : Type 0 where
  pub front : List Edge
  pub rest : List Edge
  pub split : es ≡ front ++ e ∷ rest
  pub number : asked ≡ length (before ++ front) + 1
  pub taken : AreTaken p v (before ++ front) now

-- it is met among these edges, or it is none of them
abbrev pub Seeks :
    ℕ → Plan → Version → List Edge → List Edge → Racing → Option Edge → Type 0
Seeks asked p v before es now (Some e) = IsMet asked p v before es now e
Seeks asked p v before es now None =
    AreTaken p v (before ++ es) now
    × (IsUnasked (Some asked) p (Some v) before → IsUnasked (Some asked) p (Some v) (before ++ es))

-- the line of the edge behind these is written, or a prefix of it
abbrev pub WritesLine :
    Plan → Version → List Edge → Edge → Option (List ℕ) → Option (List ℕ) → Status → Type 0
WritesLine p v before e old new status =
    (bytes : List ℕ) × IsLineOf p v before e status bytes × Appends old new bytes

abbrev pub CutsLine :
    Plan → Version → List Edge → Edge → Option (List ℕ) → Option (List ℕ) → Type 0
CutsLine p v before e old new =
    (status : Status) × (bytes : List ℕ) × IsLineOf p v before e status bytes
    × AppendsFront old new bytes

-- the answer of a command that prints one line
abbrev pub printed_answer : Result Printed Fault → Answer
printed_answer (Ok (Line status)) = Ok status
printed_answer (Ok (Beyond edges)) = Err (fault.Beyond edges)
printed_answer (Err f) = Err (fault.Trace f)

-- the answer of a command that prints one line, if it may have no plan
abbrev pub printed_status : Result Printed EngineFault → Answer
printed_status (Ok (Line status)) = Ok status
printed_status (Ok (Beyond edges)) = Err (fault.Beyond edges)
printed_status (Err f) = Err f
