-- What `walk_of_edge` writes and answers.
use Rattle.std.specs.Prelude.{◌≡◌, ◌⊎◌, ◌+◌, ℕ, List, length, take, Some, Ok, Err}
use Rattle.vme_model.specs.declared.refusals.Refused.{Refused}
use Rattle.vme_model.specs.declared.signals.Version.{Version}
use Rattle.vme_model.specs.declared.signals.Edge.{Edge}
use Rattle.vme_model.specs.Plan.{Plan}
use Rattle.vme_model.specs.Numbered.{IsNth, numbered}
use Rattle.vme_model.specs.Text.{Reading, read_of}
use Rattle.vme_model.specs.Verdict.{kept, verdict}
use Rattle.vme_trace.specs.declared.Fault.TheVariants.{Memory, Write}
use Rattle.vme_reading.specs.declared.Status.{Status}
use Rattle.vme_reading.specs.declared.Status.TheVariants.{Done, SomeRefused}
use Rattle.vme_reading.specs.declared.EngineFault.TheVariants as fault
use Rattle.vme_reading.specs.Streams.{Streams, IsInput, Wrote, WroteFront, WroteNothing}
use Rattle.vme_reading.specs.Outcomes.{Answer, bench}
use Rattle.vme_following.specs.Explaining.{Explains, IsUnasked}
use Rattle.vme_reading.specs.Waiting.{StopsWaiting}
use Rattle.vme_races.specs.declared.walks.Walk.{Walk}
use Rattle.vme_races.specs.Walks.{IsWalk}
use Rattle.vme_races.specs.Lines.{refused_line, walk_line}

-- The line of an edge behind these edges of a trace: how far it goes back, and what stops it; or
-- its verdict if it is refused.
abbrev pub IsLineOf : Plan → Version → List Edge → Edge → Status → List ℕ → Type 0
IsLineOf p v before e status bytes =
    ((walk : Walk) × (verdict (kept (bench p v) before) e ≡ Ok tt)
    × IsWalk v p e (numbered (bench p v) before) walk
    × (bytes ≡ walk_line (length before + 1) e walk) × (status ≡ Done))
    ⊎ ((refused : Refused) × (verdict (kept (bench p v) before) e ≡ Err refused)
    × (bytes ≡ refused_line (length before + 1) e refused) × (status ≡ SomeRefused))

-- the edge that has this number in the trace, and its line
pub record IsAskedLine (edge : ℕ) (p : Plan) (r : Reading) (status : Status) (bytes : List ℕ)
    : Type 0 where
  pub version : Version
  pub named : r.version ≡ Some version
  pub e : Edge
  pub at : IsNth r.edges edge e
  pub line : IsLineOf p version (take at.place r.edges) e status bytes

-- What it leaves of a trace on a plan: the line of the edge, at X8 a prefix of it; if there is
-- none, nothing. X6: there was no memory for the last edges before it.
abbrev pub PrintsWalk : ℕ → Plan → List ℕ → Streams → Answer → Type 0
PrintsWalk edge p trace s (Ok status) =
    (bytes : List ℕ) × IsAskedLine edge p (read_of trace) status bytes × Wrote s bytes
PrintsWalk edge p trace s (Err (fault.Trace f)) =
    (StopsWaiting (IsUnasked (Some edge) p) trace s f × WroteNothing s)
    ⊎ (((f ≡ Memory) × WroteNothing s)
    ⊎ ((f ≡ Write) × (status : Status) × (bytes : List ℕ)
    × IsAskedLine edge p (read_of trace) status bytes × WroteFront s bytes))
PrintsWalk edge p trace s (Err (fault.Beyond edges)) =
    Explains (Some edge) p trace s (Err (fault.Beyond edges))
PrintsWalk edge p trace s (Err _) = ⊥

-- what is left of the whole input, as a trace on a plan
abbrev pub PrintsWalkInput : ℕ → Streams → Plan → Answer → Type 0
PrintsWalkInput edge s p answer =
    (trace : List ℕ) × IsInput s.from trace × PrintsWalk edge p trace s answer
