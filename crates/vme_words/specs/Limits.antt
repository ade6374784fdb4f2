-- Jobs whose numbers lie within the limits of the program.
use Rattle.std.specs.Prelude.{◌≤◌}
use Rattle.vme_words.specs.declared.Job.{Job}
use Rattle.vme_words.specs.declared.Job.TheVariants.{Joined, Replay, Check, Drive, Run}

-- `drive` and `run` make 1 to 1,048,576 edges, and `run` gives each driver 1 to 1,000,000 turns
abbrev pub IsWithin : Job → Type 0
IsWithin (Drive scenario edges version) = (1 ≤ edges) × (edges ≤ 1048576)
IsWithin Joined = Unit {0}
IsWithin (Replay scenario trace) = Unit {0}
IsWithin (Check scenario trace) = Unit {0}
IsWithin (Run scenario edges turns version) = (1 ≤ edges) × (edges ≤ 1048576) × (1 ≤ turns) × (turns ≤ 1000000)
