-- What the edges of a trace come to, for `summary` and `add_trace`.
use Rattle.std.specs.Prelude.{ℕ, List, Result, Ok, Err}
use Rattle.vme_model.specs.declared.signals.Version.{Version}
use Rattle.vme_model.specs.declared.signals.Edge.{Edge}
use Rattle.vme_model.specs.Plan.{Plan}
use Rattle.vme_model.specs.Text.{read_of}
use Rattle.vme_trace.specs.declared.Fault.{Fault}
use Rattle.vme_summary.specs.declared.tallies.Tally.{Tally}
use Rattle.vme_summary.specs.Tally.{Answers, answered}
use Rattle.vme_summary.specs.Tallied.{IsTallyOf}
use Rattle.vme_summary.specs.Summary.{summary_text}
use Rattle.vme_summary.specs.declared.summing.Summing.{Summing}
use Rattle.vme_reading.specs.Streams.{Streams, IsReadOut}
use Rattle.vme_reading.specs.Outcomes.{bench}
use Rattle.vme_reading.specs.Waiting.{StopsWaiting}
use Rattle.vme_following.specs.Followed.{IsAfter}
use Rattle.vme_summary.specs.Summing.{IsWaiting}
use Rattle.vme_summary.specs.Totals.{IsWhole}

-- the edges of a trace of this version were summed up, on a plan
pub record IsSumOf (p : Plan) (v : Version) (es : List Edge) (now : Summing) : Type 0 where
  pub follows : IsAfter p v es now.following
  pub tally : IsTallyOf (answered (bench p v) es) now.tally

-- what holds of all edges that were summed up
abbrev pub OfSum : Summing → (Plan → Version → List Edge → Type 0) → Type 0
OfSum s P = (p : Plan) (v : Version) (es : List Edge) → IsSumOf p v es s → P p v es

-- what is printed about them
abbrev pub sum_text : Plan → Version → List Edge → List ℕ
sum_text p v es = summary_text p (answered (bench p v) es)

-- a tally is that of a whole trace
abbrev pub Tallies : Plan → List ℕ → Streams → Result Tally Fault → Type 0
Tallies p trace s (Ok tally) =
    (t : Answers) × IsWhole p (read_of trace) t × IsReadOut s × IsTallyOf t tally
Tallies p trace s (Err f) = StopsWaiting IsWaiting trace s f
