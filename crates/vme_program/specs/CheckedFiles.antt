-- What the checks of several traces leave.
use Rattle.std.specs.Prelude.{◌≡◌, ◌≤◌, ◌++◌, ◌||◌, ◌∷◌, [], ℕ, Bool, true, false, List, length, codes, Option, None, Result, Ok, Err, is_err, if◌then◌else◌}
use Rattle.std.specs.Io.KnownBytes.{Appends}
use Rattle.vme_model.specs.Plan.{Plan}
use Rattle.vme_model.specs.Text.{read_of}
use Rattle.vme_scenario.specs.Errors.{IsErrorOf}
use Rattle.vme_scenario.specs.Format.{scenario as read}
use Rattle.vme_trace.specs.declared.Fault.TheVariants.{Write}
use Rattle.vme_trace.specs.Writing.{AppendsFront}
use Rattle.vme_check.specs.declared.checks.Finding.{Finding}
use Rattle.vme_check.specs.declared.checks.Finding.TheVariants.{Illegal}
use Rattle.vme_reading.specs.declared.Status.TheVariants.{Done, SomeRefused}
use Rattle.vme_reading.specs.declared.EngineFault.TheVariants as fault
use Rattle.vme_reading.specs.Streams.{streams}
use Rattle.vme_reading.specs.Outcomes.{Answer, scenario_limit}
use Rattle.vme_check.specs.Checking.{FindsNothing, IsFound, finding_line}
use Rattle.vme_escapes.specs.Shown.{escaped}
use Rattle.vme_program.specs.declared.faults.ProgramFault.{ProgramFault}
use Rattle.vme_program.specs.declared.faults.ProgramFault.TheVariants.{CannotRead, Engine, InTrace}

-- a file that was checked: its name, and what was found in its trace, or why nothing was
pub record Checked : Type 0 where
  pub name : List ℕ
  pub found : Result Finding ProgramFault

-- This was found in some bytes, which the file of this name gave. Or the file cannot be read, there
-- is no memory, or the trace in it has a fault behind edges of which none is refused.
abbrev pub IsChecked : Plan → List ℕ → Result Finding ProgramFault → Type 0
IsChecked p name (Ok found) = (bytes : List ℕ) × (from : Option (List ℕ)) × (to : Option (List ℕ))
    × IsFound p (read_of bytes) (streams from to None None) found
IsChecked p name (Err (CannotRead file)) = file.now ≡ name
IsChecked p name (Err (Engine (fault.Scenario e))) = IsErrorOf (Ok p) e
IsChecked p name (Err (Engine fault.NoMemory)) = Unit {0}
IsChecked p name (Err (InTrace file f)) = (file.now ≡ name)
    × (bytes : List ℕ) × (from : Option (List ℕ)) × (to : Option (List ℕ))
    × FindsNothing p bytes (streams from to None None) f
IsChecked p name (Err f) = ⊥

-- ---- several files, the last one that was checked first

abbrev pub AreChecked : Plan → List Checked → Type 0
AreChecked p [] = Unit {0}
AreChecked p (c ∷ before) = IsChecked p c.name c.found × AreChecked p before

-- their names, in the order in which they were checked
abbrev pub names_of : List Checked → List (List ℕ)
names_of [] = []
names_of (c ∷ before) = names_of before ++ c.name ∷ []

-- the line of a file: its name and what was found; a fault has its line on standard error
abbrev pub file_line : List ℕ → Result Finding ProgramFault → List ℕ
file_line name (Ok found) = (escaped name ++ codes ": ") ++ finding_line found
file_line name (Err f) = []

-- their lines, in the same order
abbrev pub file_lines : List Checked → List ℕ
file_lines [] = []
file_lines (c ∷ before) = file_lines before ++ file_line c.name c.found

-- some file has a fault
abbrev pub some_faulty : List Checked → Bool
some_faulty [] = false
some_faulty (c ∷ before) = is_err c.found || some_faulty before

abbrev pub is_illegal : Result Finding ProgramFault → Bool
is_illegal (Ok (Illegal n refused)) = true
is_illegal found = false

-- in some file an edge is refused
abbrev pub some_illegal : List Checked → Bool
some_illegal [] = false
some_illegal (c ∷ before) = is_illegal c.found || some_illegal before

-- ---- the job

-- the files of these names were all checked, and their lines written
pub record WereChecked
    (p : Plan) (names : List (List ℕ)) (old new : Option (List ℕ)) (cs : List Checked)
    : Type 0 where
  pub checked : AreChecked p cs
  pub named : names_of cs ≡ names
  pub wrote : Appends old new (file_lines cs)

-- What the checks leave if no file has a fault: the status says whether some edge is refused. At X8
-- the first of the files were checked, and a prefix of their lines was written.
abbrev pub ChecksFiles :
    List (List ℕ) → Option (List ℕ) → Option (List ℕ) → Plan → Answer → Type 0
ChecksFiles names old new p (Ok status) =
    (cs : List Checked) × WereChecked p names old new cs × (some_faulty cs ≡ false)
    × (status ≡ (if some_illegal cs then SomeRefused else Done))
ChecksFiles names old new p (Err (fault.Trace f)) =
    (f ≡ Write) × (cs : List Checked) × (others : List (List ℕ)) × AreChecked p cs
    × (names ≡ names_of cs ++ others) × AppendsFront old new (file_lines cs)
ChecksFiles names old new p (Err _) = ⊥

-- what they leave if some file has a fault: the others were checked too
abbrev pub HasFaulty : List (List ℕ) → Option (List ℕ) → Option (List ℕ) → Type 0
HasFaulty names old new =
    (text : List ℕ) × (p : Plan) × (length text ≤ scenario_limit) × (read text ≡ Ok p)
    × (cs : List Checked) × WereChecked p names old new cs × (some_faulty cs ≡ true)
