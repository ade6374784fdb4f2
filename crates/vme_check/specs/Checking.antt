-- What a check of a trace finds, writes and answers.
use Rattle.std.specs.Prelude.{◌≡◌, ◌⊎◌, ◌+◌, ◌++◌, ◌∷◌, [], ℕ, List, length, codes, decimal, Some, None, Result, Ok, Err}
use Rattle.vme_model.specs.Plan.{Plan}
use Rattle.vme_model.specs.Text.{Reading, read_of}
use Rattle.vme_model.specs.Report.{verdict_text}
use Rattle.vme_trace.specs.declared.Fault.{Fault}
use Rattle.vme_trace.specs.declared.Fault.TheVariants.{Write}
use Rattle.vme_reading.specs.declared.Status.{Status}
use Rattle.vme_reading.specs.declared.Status.TheVariants.{Done, SomeRefused}
use Rattle.vme_reading.specs.declared.EngineFault.TheVariants as fault
use Rattle.vme_check.specs.declared.checks.Finding.{Finding}
use Rattle.vme_check.specs.declared.checks.Finding.TheVariants.{Legal, Illegal}
use Rattle.vme_reading.specs.LegalTraces.{IsLegalTrace}
use Rattle.vme_reading.specs.Refusals.{refusal_of}
use Rattle.vme_reading.specs.Streams.{Streams, IsInput, IsReadOut, Wrote, WroteFront, WroteNothing}
use Rattle.vme_reading.specs.Outcomes.{Answer}
use Rattle.vme_reading.specs.Waiting.{StopsWaiting}

-- What a check finds in a trace.
abbrev pub IsFound : Plan → Reading → Streams → Finding → Type 0
IsFound p r s (Legal edges) = IsLegalTrace p r × (edges ≡ length r.edges) × IsReadOut s
IsFound p r s (Illegal n refused) = refusal_of p r.version r.edges ≡ Some (n, refused)

-- the line of a finding
abbrev pub finding_line : Finding → List ℕ
finding_line (Legal edges) = (codes "legal " ++ decimal edges) ++ 10 ∷ []
finding_line (Illegal n refused) =
    (((codes "illegal " ++ decimal n) ++ codes " ") ++ verdict_text (Err refused)) ++ 10 ∷ []

abbrev pub finding_status : Finding → Status
finding_status (Legal edges) = Done
finding_status (Illegal n refused) = SomeRefused

-- Why nothing is found: the trace has a fault, and no edge before it is refused.
abbrev pub FindsNothing : Plan → List ℕ → Streams → Fault → Type 0
FindsNothing p = StopsWaiting (λ version es. refusal_of p version es ≡ None)

-- What is found in a trace on a plan, or why nothing is.
abbrev pub Finds : Plan → List ℕ → Streams → Result Finding Fault → Type 0
Finds p trace s (Ok found) = IsFound p (read_of trace) s found
Finds p trace s (Err f) = FindsNothing p trace s f

-- What a check of a trace on a plan leaves: the line of what it found, at X8 a prefix of it; if it
-- finds nothing, nothing.
abbrev pub Checks : Plan → List ℕ → Streams → Answer → Type 0
Checks p trace s (Ok status) =
    (found : Finding) × IsFound p (read_of trace) s found
    × (status ≡ finding_status found) × Wrote s (finding_line found)
Checks p trace s (Err (fault.Trace f)) =
    (FindsNothing p trace s f × WroteNothing s)
    ⊎ ((f ≡ Write) × (found : Finding) × IsFound p (read_of trace) s found
    × WroteFront s (finding_line found))
Checks p trace s (Err _) = ⊥

-- a check of the whole input
abbrev pub ChecksInput : Streams → Plan → Answer → Type 0
ChecksInput s p answer = (trace : List ℕ) × IsInput s.from trace × Checks p trace s answer
