-- How the traces of several files are added up, one after another.
use Rattle.std.specs.Prelude.{◌≡◌, ◌∷◌, ◌++◌, ℕ, true, List, Option, Result, Ok, Err}
use Rattle.std.specs.Io.KnownBytes.{Appends}
use Rattle.vme_model.specs.Plan.{Plan}
use Rattle.vme_model.specs.Text.{read_of}
use Rattle.vme_trace.specs.declared.Fault.{Fault}
use Rattle.vme_trace.specs.declared.Fault.TheVariants.{Write}
use Rattle.vme_trace.specs.Writing.{AppendsFront}
use Rattle.vme_summary.specs.declared.sums.Sums.{Sums}
use Rattle.vme_summary.specs.Tally.{Answers, refused}
use Rattle.vme_summary.specs.Tallied.{more}
use Rattle.vme_summary.specs.Sums.{Traces}
use Rattle.vme_summary.specs.Summed.{AreSumsOf, OfSums}
use Rattle.vme_reading.specs.declared.Status.{Status}
use Rattle.vme_reading.specs.Outcomes.{status_with}
use Rattle.vme_summary.specs.Totals.{IsWhole}
use Rattle.vme_program.specs.CheckingFiles.{Writes}
use Rattle.vme_program.specs.Together.{Counted, AreCounted, CutsOff, IsCounted, WereCounted, answers_of, counted_line, counted_lines, how_many, names_of, some_faulty, sums_of}
use Rattle.vme_program.specs.declared.sums.Added.{Added}
use Rattle.vme_program.specs.declared.faults.ProgramFault.{ProgramFault}

-- what one more file does to the sums
abbrev pub AddsFile : List ℕ → Sums → Sums → Result Status ProgramFault → Plan → Type 0
AddsFile name old new (Ok status) p =
    (bytes : List ℕ) × (t : Answers) × IsWhole p (read_of bytes) t
    × OfSums old (λ ts. AreSumsOf (t ∷ ts) new) × (status ≡ status_with (refused t))
AddsFile name old new (Err f) p = (new ≡ old) × IsCounted p name (Err f)

-- the same, with what is known of faults
abbrev pub Takes : Added → Result Answers ProgramFault → Added → Type 0
Takes old (Ok t) new =
    OfSums old.sums (λ ts. AreSumsOf (t ∷ ts) new.sums) × (new.traces ≡ more old.traces 1)
    × (new.faulty ≡ old.faulty)
Takes old (Err f) new =
    (new.sums ≡ old.sums) × (new.traces ≡ old.traces) × (new.faulty ≡ true)

-- one more file is read, and its line written
abbrev pub TakesFile :
    List ℕ → Added → Added → Option (List ℕ) → Option (List ℕ) → Result (Unit {0}) Fault
    → Plan → Type 0
TakesFile name old new from to answer p =
    (found : Result Answers ProgramFault) × IsCounted p name found × Takes old found new
    × Writes from to (counted_line name found) answer

-- each number is that of all these traces
pub record AreAdded (ts : Traces) (now : Added) : Type 0 where
  pub sums : AreSumsOf ts now.sums
  pub traces : now.traces ≡ how_many ts

-- what holds of all traces that were added up
abbrev pub OfAdded : Added → (Traces → Type 0) → Type 0
OfAdded now P = (ts : Traces) → AreAdded ts now → P ts

-- what the files so far came to
abbrev pub AreOf : List Counted → Added → Type 0
AreOf cs now = AreAdded (answers_of cs) now × (now.faulty ≡ some_faulty cs)

-- all files are read, up to X8
abbrev pub TakesAll :
    List (List ℕ) → Option (List ℕ) → Option (List ℕ) → Result Added Fault → Plan → Type 0
TakesAll names old new (Ok now) p =
    (cs : List Counted) × WereCounted p names cs × Appends old new (counted_lines cs)
    × AreOf cs now
TakesAll names old new (Err f) p =
    (f ≡ Write) × (cs : List Counted) × (others : List (List ℕ)) × AreCounted p cs
    × (names ≡ names_of cs ++ others) × AppendsFront old new (counted_lines cs)

-- and the sums are written
abbrev pub SumsAll :
    List (List ℕ) → Option (List ℕ) → Option (List ℕ) → Result Added Fault → Plan → Type 0
SumsAll names old new (Ok now) p =
    (cs : List Counted) × WereCounted p names cs × Appends old new (sums_of p cs) × AreOf cs now
SumsAll names old new (Err f) p = (f ≡ Write) × CutsOff names old new p
