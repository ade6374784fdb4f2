-- Jobs whose numbers lie within the limits of the program.
use Rattle.std.specs.Prelude.{◌≤◌, ◌<◌, ◌+◌, ◌⊎◌, ℕ, IfSome}
use Rattle.vme_model.specs.Report.{trace_limit}
use Rattle.vme_command_line.specs.declared.Job.{Job}
use Rattle.vme_command_line.specs.declared.Job.TheVariants.{Joined, OwnVersion, Replay, Check, Checks, Explain, Shrink, Rules, State, Show, Cycles, Summary, Sums, Races, Walk, OtherOrder, Same, Order, Probe, Drive, Draw, Search, Run}

abbrev pub most_turns : ℕ
most_turns = 1000000

-- a picture shows at least one edge, and at most 200
abbrev pub IsWindow : ℕ → ℕ → Type 0
IsWindow from to = (from ≤ to) × (to ≤ from + 199)

abbrev pub IsNoWindow : ℕ → ℕ → Type 0
IsNoWindow from to = (to < from) ⊎ (from + 199 < to)

-- `drive` and `run` make at least one edge and no more than a trace may have, and `run` gives each
-- driver 1 to 1,000,000 turns; the edges of a trace are counted from 1, and the last seed is not
-- below the first
abbrev pub IsWithin : Job → Type 0
IsWithin (Drive scenario edges version) = (1 ≤ edges) × (edges ≤ trace_limit)
IsWithin (Draw scenario edges seed until version) = (1 ≤ edges) × (edges ≤ trace_limit)
IsWithin (Search scenario edges first last goal version progress) =
    (1 ≤ edges) × (edges ≤ trace_limit) × (first ≤ last)
IsWithin Joined = Unit {0}
IsWithin OwnVersion = Unit {0}
IsWithin (Replay scenario trace full) = Unit {0}
IsWithin (Check scenario trace) = Unit {0}
IsWithin (Checks scenario traces) = Unit {0}
IsWithin (Explain scenario trace edge) = IfSome edge (λ n. 1 ≤ n)
IsWithin (Shrink scenario trace edge progress) = IfSome edge (λ n. 1 ≤ n)
IsWithin (Rules entry) = Unit {0}
IsWithin (State scenario trace after) = Unit {0}
IsWithin (Show scenario trace from to color) = (1 ≤ from) × IsWindow from to
IsWithin (Cycles scenario trace) = Unit {0}
IsWithin (Summary scenario trace) = Unit {0}
IsWithin (Sums scenario traces) = Unit {0}
IsWithin (Races scenario trace) = Unit {0}
IsWithin (Walk scenario trace edge) = 1 ≤ edge
IsWithin (OtherOrder scenario trace edge) = 1 ≤ edge
IsWithin (Same scenario trace other) = Unit {0}
IsWithin (Order scenario moments slacks places progress) = Unit {0}
IsWithin (Probe scenario capture skew) = Unit {0}
IsWithin (Run scenario edges turns version) =
    (1 ≤ edges) × (edges ≤ trace_limit) × (1 ≤ turns) × (turns ≤ most_turns)
