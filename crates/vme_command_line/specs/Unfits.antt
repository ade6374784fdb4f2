-- Why words ask for no job.
use Rattle.std.specs.Prelude.{List}
use Rattle.clap.specs.Words.{Row, Text}
use Rattle.vme_command_line.specs.Asked.{IsNoJob}
use Rattle.vme_command_line.specs.declared.Unfit.{Unfit}
use Rattle.vme_command_line.specs.declared.Unfit.TheVariants.{Missing, NoMemory}

-- a missing operand is not judged, since the command line accepts no such words; nor is want of
-- memory
abbrev pub IsUnfit : Text → List Row → Unfit → Type 0
IsUnfit name rows Missing = Unit {0}
IsUnfit name rows NoMemory = Unit {0}
IsUnfit name rows unfit = IsNoJob name rows
