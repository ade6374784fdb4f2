-- What is kept of the edges so far.
use Rattle.std.specs.Prelude.{◌≡◌, ◌+◌, ◌++◌, ℕ, List, length}
use Rattle.vme_model.specs.declared.signals.Edge.{Edge}
use Rattle.vme_model.specs.declared.signals.Version.{Version}
use Rattle.vme_model.specs.declared.signals.Wire.TheVariants.{Bbsy, AddressStrobe}
use Rattle.vme_model.specs.Plan.{Plan}
use Rattle.vme_model.specs.Numbered.{Numbered, numbered}
use Rattle.vme_model.specs.Verdict.{kept}
use Rattle.vme_reading.specs.Outcomes.{bench}
use Rattle.vme_reading.specs.Reporting.{Writes}
use Rattle.vme_following.specs.Followed.{IsAfter}
use Rattle.vme_cycles.specs.declared.record.LastCycle.{LastCycle}
use Rattle.vme_cycles.specs.declared.record.LastTenure.{LastTenure}
use Rattle.vme_cycles.specs.declared.tracking.Tracking.{Tracking}
use Rattle.vme_cycles.specs.Outcomes.{last_lines, lines_by}
use Rattle.vme_cycles.specs.Transactions.{answered, asked, cycle_of, ended, line_at, showed}

-- each field is that look back through the numbered edges
pub record IsCycleOf (p : Plan) (k : Numbered) (now : LastCycle) : Type 0 where
  pub of : now.of ≡ cycle_of k
  pub showed : now.showed ≡ showed p k
  pub answer : now.answer ≡ answered p k
  pub ended : now.ended ≡ ended AddressStrobe k

pub record IsTenureOf (k : Numbered) (now : LastTenure) : Type 0 where
  pub asked : now.asked ≡ asked k
  pub ended : now.ended ≡ ended Bbsy k

-- the edges of a trace of this version were followed, on a plan
pub record IsTracked (p : Plan) (v : Version) (es : List Edge) (now : Tracking) : Type 0 where
  pub follows : IsAfter p v es now.following
  pub cycle : IsCycleOf p (numbered (bench p v) es) now.cycle
  pub tenure : IsTenureOf (numbered (bench p v) es) now.tenure

-- what holds of all edges that were followed
abbrev pub OfTracked : Tracking → (Plan → Version → List Edge → Type 0) → Type 0
OfTracked t P = (p : Plan) (v : Version) (es : List Edge) → IsTracked p v es t → P p v es

-- what is written at the next edge of the trace
abbrev pub next_line : Plan → Version → List Edge → Edge → List ℕ
next_line p v es e =
    line_at (kept (bench p v) es) (length es + 1) e (numbered (bench p v) es)

-- ---- what is written since the first edge

-- the lines at these edges, and all that is written of them as a whole trace
abbrev pub AreLines : Writes
AreLines p v es bytes = bytes ≡ lines_by p v es

abbrev pub IsText : Writes
IsText p v es bytes = bytes ≡ lines_by p v es ++ last_lines p v es

-- the edges were followed, and these are their lines
abbrev pub IsKnown : Plan → Version → List Edge → List ℕ → Tracking → Type 0
IsKnown p v es bytes now = IsTracked p v es now × AreLines p v es bytes
