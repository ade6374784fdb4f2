-- What the sums over several traces leave.
use Rattle.std.specs.Prelude.{◌≡◌, ◌==◌, ◌⊎◌, ◌≤◌, ◌++◌, ◌||◌, ℕ, Bool, true, false, if◌then◌else◌, List, [], ◌∷◌, length, codes, decimal, Option, None, Result, Ok, Err, is_err}
use Rattle.std.specs.Io.KnownBytes.{Appends}
use Rattle.vme_model.specs.Plan.{Plan}
use Rattle.vme_model.specs.Text.{read_of}
use Rattle.vme_scenario.specs.Errors.{IsErrorOf}
use Rattle.vme_scenario.specs.Format.{scenario as read}
use Rattle.vme_trace.specs.declared.Fault.TheVariants.{Write}
use Rattle.vme_trace.specs.Writing.{AppendsFront}
use Rattle.vme_summary.specs.Tally.{Answers, refused}
use Rattle.vme_summary.specs.Sums.{Traces, sums_text, total}
use Rattle.vme_reading.specs.declared.Status.{Status}
use Rattle.vme_reading.specs.declared.Status.TheVariants.{SomeRefused}
use Rattle.vme_reading.specs.declared.EngineFault.TheVariants as fault
use Rattle.vme_reading.specs.Streams.{streams}
use Rattle.vme_reading.specs.Outcomes.{Answer, scenario_limit, status_with}
use Rattle.vme_summary.specs.Summing.{IsWaiting}
use Rattle.vme_summary.specs.Totals.{IsWhole}
use Rattle.vme_reading.specs.Waiting.{StopsWaiting}
use Rattle.vme_escapes.specs.Shown.{escaped}
use Rattle.vme_program.specs.declared.faults.ProgramFault.{ProgramFault}
use Rattle.vme_program.specs.declared.faults.ProgramFault.TheVariants.{CannotRead, Engine, InTrace}

-- a file that was read: its name, and the edges of its trace with their answers, or why there are
-- none
pub record Counted : Type 0 where
  pub name : List ℕ
  pub found : Result Answers ProgramFault

-- The file of this name gave some bytes, a whole trace without fault that has these edges with
-- their answers. Or the file cannot be read, there is no memory, or the trace in it has a fault.
-- (No clause can say what a file gives.)
abbrev pub IsCounted : Plan → List ℕ → Result Answers ProgramFault → Type 0
IsCounted p name (Ok t) = (bytes : List ℕ) × IsWhole p (read_of bytes) t
IsCounted p name (Err (CannotRead file)) = file.now ≡ name
IsCounted p name (Err (Engine (fault.Scenario e))) = IsErrorOf (Ok p) e
IsCounted p name (Err (Engine fault.NoMemory)) = Unit {0}
IsCounted p name (Err (InTrace file f)) = (file.now ≡ name)
    × (trace : List ℕ) × (from : Option (List ℕ)) × (to : Option (List ℕ))
    × StopsWaiting IsWaiting trace (streams from to None None) f
IsCounted p name (Err f) = ⊥

-- ---- several files, the last one that was read first

abbrev pub AreCounted : Plan → List Counted → Type 0
AreCounted p [] = Unit {0}
AreCounted p (c ∷ before) = IsCounted p c.name c.found × AreCounted p before

-- their names, in the order in which they were read
abbrev pub names_of : List Counted → List (List ℕ)
names_of [] = []
names_of (c ∷ before) = names_of before ++ c.name ∷ []

-- the edges of their traces; a file with a fault has none
abbrev pub added : Result Answers ProgramFault → Traces → Traces
added (Ok t) ts = t ∷ ts
added (Err f) ts = ts

abbrev pub answers_of : List Counted → Traces
answers_of [] = []
answers_of (c ∷ before) = added c.found (answers_of before)

-- the line of a trace with a refused edge; a fault has its line on standard error
abbrev pub illegal_line : List ℕ → List ℕ
illegal_line name = escaped name ++ codes ": illegal\n"

abbrev pub refused_line : List ℕ → Status → List ℕ
refused_line name SomeRefused = illegal_line name
refused_line name status = []

abbrev pub counted_line : List ℕ → Result Answers ProgramFault → List ℕ
counted_line name (Ok t) = refused_line name (status_with (refused t))
counted_line name (Err f) = []

-- their lines, in the order in which they were read
abbrev pub counted_lines : List Counted → List ℕ
counted_lines [] = []
counted_lines (c ∷ before) = counted_lines before ++ counted_line c.name c.found

-- some file has a fault
abbrev pub some_faulty : List Counted → Bool
some_faulty [] = false
some_faulty (c ∷ before) = is_err c.found || some_faulty before

-- how many traces there are
abbrev pub how_many : Traces → ℕ
how_many ts = total (λ t. 1) ts

abbrev pub traces_line : ℕ → List ℕ
traces_line n = (codes "traces " ++ decimal n) ++ 10 ∷ []

-- how many traces are added up, and their sums; nothing if there are none
abbrev pub totals_text : Plan → Traces → List ℕ
totals_text p ts =
    if how_many ts == 0 then [] else traces_line (how_many ts) ++ sums_text p ts

-- ---- the job

-- the files of these names were all read
pub record WereCounted (p : Plan) (names : List (List ℕ)) (cs : List Counted) : Type 0 where
  pub counted : AreCounted p cs
  pub named : names_of cs ≡ names

-- the lines of the files, and then the sums over the traces without fault
abbrev pub sums_of : Plan → List Counted → List ℕ
sums_of p cs = counted_lines cs ++ totals_text p (answers_of cs)

-- At X8 the first of the files were read, and a prefix of their lines was written; or all were, and
-- a prefix of all was.
abbrev pub CutsOff : List (List ℕ) → Option (List ℕ) → Option (List ℕ) → Plan → Type 0
CutsOff names old new p = (cs : List Counted) × (others : List (List ℕ)) × AreCounted p cs
    × (names ≡ names_of cs ++ others)
    × (AppendsFront old new (counted_lines cs)
    ⊎ ((others ≡ []) × AppendsFront old new (sums_of p cs)))

-- What the sums leave if no file has a fault: the status says whether some edge is refused.
abbrev pub SumsFiles :
    List (List ℕ) → Option (List ℕ) → Option (List ℕ) → Plan → Answer → Type 0
SumsFiles names old new p (Ok status) =
    (cs : List Counted) × WereCounted p names cs × (some_faulty cs ≡ false)
    × Appends old new (sums_of p cs) × (status ≡ status_with (total refused (answers_of cs)))
SumsFiles names old new p (Err (fault.Trace f)) = (f ≡ Write) × CutsOff names old new p
SumsFiles names old new p (Err _) = ⊥

-- what they leave if some file has a fault: the others were added up
abbrev pub LacksFiles : List (List ℕ) → Option (List ℕ) → Option (List ℕ) → Type 0
LacksFiles names old new =
    (text : List ℕ) × (p : Plan) × (length text ≤ scenario_limit) × (read text ≡ Ok p)
    × (cs : List Counted) × WereCounted p names cs × (some_faulty cs ≡ true)
    × Appends old new (sums_of p cs)
