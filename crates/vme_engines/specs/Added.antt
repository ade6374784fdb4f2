-- What the edges of one trace of several do to an engine.
use Rattle.std.specs.Prelude.{◌≡◌, ◌+◌, ◌++◌, ℕ, Bool, true, false, List, length, Option, Some, None, Result, Ok, Err}
use Rattle.vme_model.specs.declared.signals.Edge.{Edge}
use Rattle.vme_model.specs.Plan.{Plan}
use Rattle.vme_model.specs.Text.{read_of}
use Rattle.vme_trace.specs.declared.Fault.{Fault}
use Rattle.vme_summary.specs.declared.tallies.Tally.{Tally}
use Rattle.vme_summary.specs.Tally.{Answers, answered}
use Rattle.vme_summary.specs.Tallied.{IsTallyOf}
use Rattle.vme_engines.specs.declared.summaries.Summing.{Summing}
use Rattle.vme_engines.specs.Streams.{Streams, IsInput, IsReadOut}
use Rattle.vme_engines.specs.Summed.{IsSumOf, OfSum}
use Rattle.vme_engines.specs.Summing.{IsWaiting}
use Rattle.vme_engines.specs.Totals.{IsWhole}
use Rattle.vme_engines.specs.Waiting.{StopsWaiting}

-- What further edges do to a sum: `more` is what the read answered. At the end of the trace its
-- tally is given away.
abbrev pub TalliesPiece :
    Summing → List Edge → Result Bool Fault → Summing → Result (Option Tally) Fault → Type 0
TalliesPiece first es more now (Ok None) =
    (more ≡ Ok true) × (now.following.judged ≡ first.following.judged + length es)
    × OfSum first (λ b before. IsSumOf b (before ++ es) now)
TalliesPiece first es more now (Ok (Some tally)) =
    (more ≡ Ok false) × OfSum first (λ b before. IsTallyOf (answered b (before ++ es)) tally)
TalliesPiece first es more now (Err f) = more ≡ Err f

-- a tally is that of a whole trace
abbrev pub Tallies : Plan → List ℕ → Streams → Result Tally Fault → Type 0
Tallies p trace s (Ok tally) =
    (t : Answers) × IsWhole p (read_of trace) t × IsReadOut s × IsTallyOf t tally
Tallies p trace s (Err f) = StopsWaiting IsWaiting trace s f

-- the same of the whole input
abbrev pub TalliesInput : Streams → Plan → Result Tally Fault → Type 0
TalliesInput s p result = (trace : List ℕ) × IsInput s.from trace × Tallies p trace s result
