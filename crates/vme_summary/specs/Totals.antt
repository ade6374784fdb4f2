-- What traces of one scenario come to together.
use Rattle.std.specs.Prelude.{◌≡◌, ◌∷◌, ℕ, List, Option, Some, None, Ok, Err}
use Rattle.vme_model.specs.declared.signals.Version.{Version}
use Rattle.vme_model.specs.Plan.{Plan}
use Rattle.vme_model.specs.Text.{Reading, read_of}
use Rattle.vme_summary.specs.declared.sums.Sums.{Sums}
use Rattle.vme_summary.specs.Tally.{Answers, answered, refused}
use Rattle.vme_summary.specs.Summed.{AreSumsOf, OfSums}
use Rattle.vme_reading.specs.declared.EngineFault.TheVariants as fault
use Rattle.vme_reading.specs.Streams.{Streams, IsInput, IsReadOut}
use Rattle.vme_reading.specs.Outcomes.{Answer, bench, status_with}
use Rattle.vme_reading.specs.Waiting.{StopsWaiting}
use Rattle.vme_summary.specs.Summing.{IsWaiting}

-- a whole trace without fault, which begins at power-up, has these edges with their answers
pub record IsWhole (p : Plan) (r : Reading) (t : Answers) : Type 0 where
  pub version : Version
  pub named : r.version ≡ Some version
  pub whole : r.fault ≡ None
  pub answers : t ≡ answered (bench p version) r.edges

-- What one more trace of a plan does to the sums of those before it: it is added, or it has a
-- fault. The status says whether some edge of it was refused.
abbrev pub Adds : Plan → List ℕ → Streams → Sums → Sums → Answer → Type 0
Adds p trace s old new (Ok status) =
    (t : Answers) × IsWhole p (read_of trace) t × IsReadOut s
    × OfSums old (λ ts. AreSumsOf (t ∷ ts) new) × (status ≡ status_with (refused t))
Adds p trace s old new (Err (fault.Trace f)) = StopsWaiting IsWaiting trace s f
Adds p trace s old new (Err _) = ⊥

-- what the whole input, as one more trace of a plan, does to the sums of those before it
abbrev pub AddsInput : Streams → Sums → Sums → Plan → Answer → Type 0
AddsInput s old new p answer =
    (trace : List ℕ) × IsInput s.from trace × Adds p trace s old new answer
