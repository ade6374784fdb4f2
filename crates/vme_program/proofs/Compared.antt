-- Two traces that are compared, and the fault that is passed on.
use Rattle.std.proofs.Common.{◌≡◌, inl, inr, ℕ, List, Result, Ok, Err, refl, subst, sym}
use Rattle.std.specs.Prelude.{IfOk, IfErr, OnErr}
use Rattle.std.specs.Io.KnownBytes.{Appends}
use Rattle.vme_trace.specs.declared.Fault.TheVariants.{Write}
use Rattle.vme_trace.specs.Writing.{AppendsFront}
use Rattle.vme_model.specs.Plan.{Plan}
use Rattle.vme_reading.specs.declared.Status.{Status}
use Rattle.vme_program.specs.Comparisons.{WasFound, comparison_lines, comparison_status}
use Rattle.vme_program.specs.declared.faults.ProgramFault.{ProgramFault}
use Rattle.vme_program.specs.declared.faults.ProgramFault.TheVariants.{Engine}
use Rattle.std.specs.Borrow.{Bor}
use Rattle.std.proofs.KnownBytes.{Keeps-refl}
use Rattle.vme_reading.specs.declared.EngineFault.TheVariants as fault
use Rattle.vme_reading.specs.declared.pairs.PairFault.{PairFault}
use Rattle.vme_reading.specs.declared.pairs.PairFault.TheVariants as pair
use Rattle.vme_reading.specs.Streams.{Streams, ReadNothing}
use Rattle.vme_reading.specs.Pairs.{LentPair, ReadsPair}
use Rattle.vme_same.specs.Comparing.{IsComparison}
use Rattle.vme_same.specs.declared.comparisons.Comparison.{Comparison}
use Rattle.vme_command_line.specs.declared.Job.TheVariants.{OnScenario}
use Rattle.vme_command_line.specs.declared.Work.TheVariants.{Same}
use Rattle.vme_program.specs.Done.{IsDone, Known}
use Rattle.vme_program.specs.Names.{pair_fault_named}

-- what the engine answers on two traces and the scenario of this text
abbrev pub ComparesText : List ℕ → Streams → Streams → Result Comparison PairFault → Type 0
ComparesText text s t answer =
    LentPair text (ReadNothing s × ReadNothing t) (λ p. ReadsPair (λ v w es fs found. IsComparison p v w es fs found) s t) answer

-- nothing is found, and nothing is written
pub same_faulty : (scenario trace other : Bor (List ℕ)) (text : List ℕ) (s t : Streams) (held : Known) (f : PairFault) → ComparesText text s t (Err f)
    → IsDone (OnScenario scenario (Same trace other)) held held (Err (pair_fault_named scenario other f))
same_faulty scenario trace other text s t held (pair.Engine fault.CannotRead) h = absurd h
same_faulty scenario trace other text s t held (pair.Engine fault.TooLong) h = Keeps-refl held
same_faulty scenario trace other text s t held (pair.Engine (fault.Scenario e)) h = inl (text, (h.0, h.1, Keeps-refl held))
same_faulty scenario trace other text s t held (pair.Engine (fault.Trace f)) h = absurd h.3
same_faulty scenario trace other text s t held (pair.Engine (fault.Beyond n)) h = absurd h.3
same_faulty scenario trace other text s t held (pair.Engine fault.NoMemory) h = inl (text, (h.0, h.1, h.2, Keeps-refl held))
same_faulty scenario trace other text s t held (pair.First f) h = inl (text, (h.0, h.1, h.2, inl ((s, t, h.3), Keeps-refl held)))
same_faulty scenario trace other text s t held (pair.Second f) h = ((text, h.0, h.2, refl, (s, t, h.3)), Keeps-refl held)

-- what was found is of two whole traces
was_found : (p : Plan) (s t : Streams) (found : Comparison)
    → ReadsPair (λ v w es fs found. IsComparison p v w es fs found) s t (Ok found) → WasFound p found
was_found p s t found h = (h.0, h.1, h.2, h.3, s, t, h.4, h.5, h.6)

-- its lines are written, or a prefix of them
pub same_found : (scenario trace other : Bor (List ℕ)) (text : List ℕ) (s t : Streams) (old new : Known) (found : Comparison) (answer : Result Status ProgramFault) → ComparesText text s t (Ok found)
    → IfOk answer (λ status. (status ≡ comparison_status found) × Appends old new (comparison_lines trace.now other.now found))
    → OnErr answer (AppendsFront old new (comparison_lines trace.now other.now found))
    → IfErr answer (λ f. f ≡ Engine (fault.Trace Write))
    → IsDone (OnScenario scenario (Same trace other)) old new answer
same_found scenario trace other text s t old new found (Ok status) h ok front is = (text, (h.0, h.1, h.2, (found, was_found h.0 s t found h.3, ok.0, ok.1)))
same_found scenario trace other text s t old new found (Err f) h ok front is =
    subst (λ (g : ProgramFault). IsDone (OnScenario scenario (Same trace other)) old new (Err g)) (sym is) (inl (text, (h.0, h.1, h.2, inr (refl, found, was_found h.0 s t found h.3, front))))
