-- How the traces of several files are checked, one after another.
use Rattle.std.specs.Prelude.{◌≡◌, ◌≤◌, ◌++◌, ℕ, true, List, length, Option, Result, Ok, Err}
use Rattle.std.specs.Io.KnownBytes.{Appends}
use Rattle.vme_model.specs.Plan.{Plan}
use Rattle.vme_scenario.specs.Format.{scenario as read}
use Rattle.vme_trace.specs.declared.Fault.{Fault}
use Rattle.vme_trace.specs.declared.Fault.TheVariants.{Write}
use Rattle.vme_trace.specs.Writing.{AppendsFront}
use Rattle.vme_check.specs.declared.checks.Finding.{Finding}
use Rattle.vme_check.specs.declared.checks.Finding.TheVariants.{Legal, Illegal}
use Rattle.vme_reading.specs.Outcomes.{scenario_limit}
use Rattle.vme_program.specs.CheckedFiles.{Checked, IsChecked, AreChecked, WereChecked, file_line, file_lines, names_of, some_faulty, some_illegal}
use Rattle.vme_program.specs.declared.checks.Seen.{Seen}
use Rattle.vme_program.specs.declared.faults.ProgramFault.{ProgramFault}

-- on a scenario that has a plan
abbrev pub OnPlan : List ℕ → (Plan → Type 0) → Type 0
OnPlan text Does = (p : Plan) → length text ≤ scenario_limit → read text ≡ Ok p → Does p

-- what the checks so far came to
abbrev pub seen_of : List Checked → Seen
seen_of cs = record { faulty = some_faulty cs; illegal = some_illegal cs }

-- the same after one more
abbrev pub seen_with : Seen → Result Finding ProgramFault → Seen
seen_with seen (Ok (Legal edges)) = seen
seen_with seen (Ok (Illegal n refused)) = record seen { illegal = true }
seen_with seen (Err f) = record seen { faulty = true }

-- a text is written, or at X8 a prefix of it
abbrev pub Writes :
    Option (List ℕ) → Option (List ℕ) → List ℕ → Result (Unit {0}) Fault → Type 0
Writes old new text (Ok _) = Appends old new text
Writes old new text (Err f) = (f ≡ Write) × AppendsFront old new text

-- one more file is checked, and its line written
abbrev pub ChecksFile :
    List ℕ → Seen → Seen → Option (List ℕ) → Option (List ℕ) → Result (Unit {0}) Fault
    → Plan → Type 0
ChecksFile name seen seen' old new answer p =
    (found : Result Finding ProgramFault) × IsChecked p name found
    × (seen' ≡ seen_with seen found) × Writes old new (file_line name found) answer

-- all files are checked, up to X8
abbrev pub ChecksAll :
    List (List ℕ) → Option (List ℕ) → Option (List ℕ) → Result Seen Fault → Plan → Type 0
ChecksAll names old new (Ok seen) p =
    (cs : List Checked) × WereChecked p names old new cs × (seen ≡ seen_of cs)
ChecksAll names old new (Err f) p =
    (f ≡ Write) × (cs : List Checked) × (others : List (List ℕ)) × AreChecked p cs
    × (names ≡ names_of cs ++ others) × AppendsFront old new (file_lines cs)
