-- Why the words after the program's name are not read.
use Rattle.std.specs.Prelude.{◌≤◌}
use Rattle.vme_jobs.specs.declared.arguments.WordsFault.{WordsFault}
use Rattle.vme_jobs.specs.declared.arguments.WordsFault.TheVariants.{NotText, NoMemory}

-- a word that is no text stands after the program's name, whose place is 0
abbrev pub IsPlaced : WordsFault → Type 0
IsPlaced (NotText place) = 1 ≤ place
IsPlaced NoMemory = Unit {0}
