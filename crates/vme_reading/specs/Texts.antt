-- A text that is put together before it is written.
use Rattle.std.specs.Prelude.{◌≡◌, ℕ, List, ◌++◌, Option, Result, Ok, Err}
use Rattle.std.specs.Io.KnownBytes.{Appends}
use Rattle.vme_model.specs.History.{in_order}
use Rattle.vme_model.specs.Verdict.{State}
use Rattle.vme_model.specs.Text.{edge_lines, text}
use Rattle.vme_trace.specs.declared.Fault.{Fault}
use Rattle.vme_trace.specs.declared.Fault.TheVariants.{Write}
use Rattle.vme_trace.specs.Writing.{AppendsFront}

-- a prefix of the text went to a writer, and the text holds the rest
abbrev pub HandsOn : Option (List ℕ) → Option (List ℕ) → List ℕ → List ℕ → Type 0
HandsOn old new text rest = (prefix : List ℕ) × (text ≡ prefix ++ rest) × Appends old new prefix

-- the lines of the edges that were made
abbrev pub lines_made : State → List ℕ
lines_made b = edge_lines (in_order b.history)

-- their trace
abbrev pub trace_made : State → List ℕ
trace_made b = text b.version (in_order b.history)

-- these lines went to a writer, but for what a text holds
abbrev pub IsListed : Option (List ℕ) → Option (List ℕ) → List ℕ → List ℕ → Type 0
IsListed old new held lines =
    (front : List ℕ) × (lines ≡ front ++ held) × Appends old new front

-- what was listed is still listed
abbrev pub KeepsListed :
    State → List ℕ → Option (List ℕ) → Option (List ℕ) → State → List ℕ → Type 0
KeepsListed b held old new b' held' =
    (first : Option (List ℕ)) → IsListed first old held (lines_made b)
    → IsListed first new held' (lines_made b')

-- What becomes of a bus and of such a text, if edges are made up to an end and each line is put
-- to the text: at X8 a prefix of the lines of all was written.
abbrev pub ListsOn :
    {A : Type 0} → State → List ℕ → Option (List ℕ) → Option (List ℕ)
    → State → State → List ℕ → Result A Fault → Type 0
ListsOn b held old new end b' held' (Ok _) =
    (b' ≡ end) × KeepsListed b held old new b' held'
ListsOn b held old new end b' held' (Err f) =
    (f ≡ Write)
    × ((first : Option (List ℕ)) → IsListed first old held (lines_made b)
    → AppendsFront first new (lines_made end))
