-- What the edges of a trace do to `summary`.
use Rattle.std.specs.Prelude.{◌≡◌, ◌⊎◌, ◌+◌, ◌++◌, [], ℕ, Bool, true, false, List, length, Option, Some, None, Result, Ok, Err}
use Rattle.std.specs.Io.KnownBytes.{Appends, Keeps}
use Rattle.vme_model.specs.declared.signals.Edge.{Edge}
use Rattle.vme_model.specs.Verdict.{State, kept}
use Rattle.vme_model.specs.Numbered.{numbered}
use Rattle.vme_explain.specs.Marked.{IsMarksOf}
use Rattle.vme_trace.specs.declared.Fault.{Fault}
use Rattle.vme_trace.specs.declared.Fault.TheVariants.{Write}
use Rattle.vme_trace.specs.Writing.{AppendsFront}
use Rattle.vme_summary.specs.Tally.{answered, refused}
use Rattle.vme_summary.specs.Tallied.{IsTallyOf}
use Rattle.vme_summary.specs.Summary.{summary_text}
use Rattle.vme_engines.specs.declared.Status.{Status}
use Rattle.vme_engines.specs.declared.summaries.Summing.{Summing}
use Rattle.vme_engines.specs.Outcomes.{status_with}

-- the edges of a trace were summed up, on a bus without edges
pub record IsSumOf (b : State) (es : List Edge) (now : Summing) : Type 0 where
  pub empty : b.history ≡ []
  pub bus : now.following.bus ≡ kept b es
  pub judged : now.following.judged ≡ length es
  pub marks : IsMarksOf b.plan (numbered b es) now.following.marks
  pub tally : IsTallyOf (answered b es) now.tally

-- what holds of all edges that were summed up
abbrev pub OfSum : Summing → (State → List Edge → Type 0) → Type 0
OfSum s P = (b : State) (es : List Edge) → IsSumOf b es s → P b es

-- What further edges do to a sum: `more` is what the read answered.
abbrev pub SumsPiece :
    Summing → List Edge → Result Bool Fault → Option (List ℕ) → Option (List ℕ)
    → Summing → Result (Option Status) Fault → Type 0
SumsPiece first es more old new now (Ok None) =
    (more ≡ Ok true) × Keeps old new
    × (now.following.judged ≡ first.following.judged + length es)
    × OfSum first (λ b before. IsSumOf b (before ++ es) now)
SumsPiece first es more old new now (Ok (Some status)) =
    (more ≡ Ok false)
    × OfSum first (λ b before.
    Appends old new (summary_text b.plan (answered b (before ++ es)))
    × (status ≡ status_with (refused (answered b (before ++ es)))))
SumsPiece first es more old new now (Err f) =
    ((more ≡ Err f) × Keeps old new)
    ⊎ ((f ≡ Write) × (more ≡ Ok false)
    × OfSum first (λ b before.
    AppendsFront old new (summary_text b.plan (answered b (before ++ es)))))
