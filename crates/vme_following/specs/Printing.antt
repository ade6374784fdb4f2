-- What a command leaves of a trace that prints at the edge that is asked for.
use Rattle.std.specs.Prelude.{◌≡◌, ◌⊎◌, ℕ, List, Option, Ok, Err}
use Rattle.vme_model.specs.Plan.{Plan}
use Rattle.vme_model.specs.Text.{read_of}
use Rattle.vme_trace.specs.declared.Fault.{Fault}
use Rattle.vme_trace.specs.declared.Fault.TheVariants.{Write}
use Rattle.vme_reading.specs.declared.Status.{Status}
use Rattle.vme_reading.specs.declared.Status.TheVariants.{Done}
use Rattle.vme_reading.specs.declared.EngineFault.TheVariants as fault
use Rattle.vme_reading.specs.Streams.{Streams, IsInput, Wrote, WroteFront, WroteNothing}
use Rattle.vme_reading.specs.Outcomes.{Answer}
use Rattle.vme_reading.specs.Seeking.{IsAllLegal, IsBeyond, OfAsked, SeeksEdge, Writing}
use Rattle.vme_check.specs.declared.checks.Finding.TheVariants.{Legal}
use Rattle.vme_check.specs.Checking.{finding_line}

-- What is left of a trace on a plan: what is written at the edge, or that all edges are legal, at
-- X8 a prefix of it; if there is neither, nothing. X9: of a whole trace with so many edges.
abbrev pub Prints :
    Writing Status → (Fault → Type 0) → Option ℕ → Plan → List ℕ → Streams → Answer → Type 0
Prints Writes Fails asked p trace s (Ok status) =
    OfAsked asked p (read_of trace) (λ v before e. Writes v before e s.old s.new (Ok status))
    ⊎ ((edges : ℕ) × IsAllLegal asked p (read_of trace) s edges × (status ≡ Done)
    × Wrote s (finding_line (Legal edges)))
Prints Writes Fails asked p trace s (Err (fault.Trace f)) =
    SeeksEdge Writes Fails asked p trace s (Err f)
    ⊎ ((f ≡ Write) × (edges : ℕ) × IsAllLegal asked p (read_of trace) s edges
    × WroteFront s (finding_line (Legal edges)))
Prints Writes Fails asked p trace s (Err (fault.Beyond edges)) =
    IsBeyond asked (read_of trace) s edges × WroteNothing s
Prints Writes Fails asked p trace s (Err _) = ⊥

-- what is left of the whole input, as a trace on a plan
abbrev pub PrintsInput :
    (Plan → Writing Status) → (Fault → Type 0) → Option ℕ → Streams → Plan → Answer → Type 0
PrintsInput Writes Fails asked s p answer =
    (trace : List ℕ) × IsInput s.from trace × Prints (Writes p) Fails asked p trace s answer
