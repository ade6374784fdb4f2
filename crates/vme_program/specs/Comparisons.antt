-- What the comparison of two traces leaves.
use Rattle.std.specs.Prelude.{◌≡◌, ◌⊎◌, ◌++◌, [], ℕ, true, false, List, codes, Option, Result, Ok, Err}
use Rattle.std.specs.Io.KnownBytes.{Appends, Keeps}
use Rattle.vme_model.specs.declared.signals.Version.{Version}
use Rattle.vme_model.specs.declared.signals.Edge.{Edge}
use Rattle.vme_model.specs.Plan.{Plan}
use Rattle.vme_trace.specs.declared.Fault.{Fault}
use Rattle.vme_trace.specs.declared.Fault.TheVariants.{Write}
use Rattle.vme_trace.specs.Writing.{AppendsFront}
use Rattle.vme_reading.specs.declared.Status.{Status}
use Rattle.vme_reading.specs.declared.Status.TheVariants.{Done, SomeRefused}
use Rattle.vme_reading.specs.declared.EngineFault.TheVariants as fault
use Rattle.vme_reading.specs.declared.pairs.PairFault.TheVariants.{First, Second}
use Rattle.vme_reading.specs.Streams.{Streams}
use Rattle.vme_reading.specs.Outcomes.{Answer}
use Rattle.vme_reading.specs.Pairs.{EitherMeets, IsReadWhole}
use Rattle.vme_same.specs.Comparing.{IsComparison}
use Rattle.vme_same.specs.Lines.{found_lines}
use Rattle.vme_same.specs.declared.comparisons.Comparison.{Comparison}
use Rattle.vme_same.specs.declared.comparisons.Comparison.TheVariants.{Same, Refuses}
use Rattle.vme_escapes.specs.Shown.{escaped}

-- how the line of a refused edge begins: with the name of its file
abbrev pub refused_in : List ℕ → List ℕ
refused_in name = (codes "refused " ++ escaped name) ++ codes " "

-- how the first line begins, by the names of both files
abbrev pub beginning_of : List ℕ → List ℕ → Comparison → List ℕ
beginning_of first second (Refuses true n refused) = refused_in first
beginning_of first second (Refuses false n refused) = refused_in second
beginning_of first second found = []

abbrev pub comparison_lines : List ℕ → List ℕ → Comparison → List ℕ
comparison_lines first second found = beginning_of first second found ++ found_lines found

abbrev pub comparison_status : Comparison → Status
comparison_status (Same n) = Done
comparison_status found = SomeRefused

-- This was found of two whole traces that were read. (No clause can say what a file gives.)
abbrev pub WasFound : Plan → Comparison → Type 0
WasFound p found = (v : Version) × (w : Version) × (es : List Edge) × (fs : List Edge)
    × (s : Streams) × (t : Streams) × IsReadWhole s v es × IsReadWhole t w fs
    × IsComparison p v w es fs found

-- the first of two traces that were read has this fault
abbrev pub FirstStops : Fault → Type 0
FirstStops f = (s : Streams) × (t : Streams) × EitherMeets s t (First f)

-- the second has it, and the first has none
abbrev pub SecondStops : Fault → Type 0
SecondStops f = (s : Streams) × (t : Streams) × EitherMeets s t (Second f)

-- What the comparison of the traces in the files of these names leaves on a plan: the lines of what
-- is found, at X8 a prefix of them. If the first trace has a fault, nothing is written.
abbrev pub ComparesFiles :
    List ℕ → List ℕ → Option (List ℕ) → Option (List ℕ) → Plan → Answer → Type 0
ComparesFiles first second old new p (Ok status) =
    (found : Comparison) × WasFound p found × (status ≡ comparison_status found)
    × Appends old new (comparison_lines first second found)
ComparesFiles first second old new p (Err (fault.Trace f)) =
    (FirstStops f × Keeps old new)
    ⊎ ((f ≡ Write) × (found : Comparison) × WasFound p found
    × AppendsFront old new (comparison_lines first second found))
ComparesFiles first second old new p (Err _) = ⊥
