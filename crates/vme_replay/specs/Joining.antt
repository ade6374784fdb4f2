-- A scenario and a trace in one input.
use Rattle.std.specs.Prelude.{◌≡◌, ◌==◌, ◌&&◌, ◌||◌, ◌⊎◌, ◌++◌, ◌∷◌, [], ℕ, Bool, true, List, take, codes, Option, Some, None, option_map, Err, if◌then◌else◌}
use Rattle.std.specs.Str.{bytes_eq}
use Rattle.vme_trace.specs.declared.Fault.TheVariants.{Header, Read}
use Rattle.vme_reading.specs.declared.EngineFault.TheVariants as fault
use Rattle.vme_reading.specs.declared.LineForm.TheVariants.{Short}
use Rattle.vme_reading.specs.Streams.{Streams, IsInput, HasConsumed, IsReadOut, WroteNothing}
use Rattle.vme_reading.specs.Outcomes.{Answer, LentAsking, Replays}

-- the bytes begin with a header line
abbrev pub begins_trace : List ℕ → Bool
begins_trace bytes =
    bytes_eq (take 6 bytes) (codes "vme 1\n") || bytes_eq (take 6 bytes) (codes "vme 2\n")

-- the scenario and the trace: the bytes before the first header line, and from it on; whether a
-- line begins here
unfoldable pub cut : Bool → List ℕ → Option (List ℕ × List ℕ)
cut at_line [] = None
cut at_line (b ∷ bytes) =
    if at_line && begins_trace (b ∷ bytes) then Some ([], b ∷ bytes)
    else option_map (λ parts. (b ∷ parts.0, parts.1)) (cut (b == 10) bytes)

-- No header line was found in these bytes: X1 at the end of the input, F1 or X5 if it could not
-- be read on, or F3.
abbrev pub FindsNoTrace : Streams → List ℕ → Answer → Type 0
FindsNoTrace s bytes (Err (fault.Trace Header)) = (cut true bytes ≡ None) × IsReadOut s
FindsNoTrace s bytes (Err (fault.Trace Read)) = cut true bytes ≡ None
FindsNoTrace s bytes (Err fault.CannotRead) = cut true bytes ≡ None
FindsNoTrace s bytes (Err fault.NoMemory) = Unit {0}
FindsNoTrace s bytes _ = ⊥

-- What `joined` leaves: a replay of the trace, in short lines, on the scenario before it, or
-- nothing if there is no trace.
abbrev pub Joins : Streams → Answer → Type 0
Joins s answer =
    ((text : List ℕ) × (trace : List ℕ) × IsInput s.from (text ++ trace)
    × (cut true (text ++ trace) ≡ Some (text, trace))
    × LentAsking text (WroteNothing s) (λ p r. Replays Short p text trace s r) answer)
    ⊎ ((bytes : List ℕ) × HasConsumed s bytes × WroteNothing s × FindsNoTrace s bytes answer)
