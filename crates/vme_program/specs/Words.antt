-- How the words after the program's name are read, and why they are not.
use Rattle.std.specs.Prelude.{◌≤◌, ◌+◌, ◌^◌, ◌-◌, ℕ, Result, Ok, Err, min}
use Rattle.std.specs.declared.env.FillError.{FillError}
use Rattle.std.specs.declared.env.FillError.TheVariants.{NotPresent, TooLong}
use Rattle.vme_program.specs.declared.arguments.Outcome.{Outcome}
use Rattle.vme_program.specs.declared.arguments.Outcome.TheVariants.{Word, End, Again}
use Rattle.vme_program.specs.declared.arguments.WordsFault.{WordsFault}
use Rattle.vme_program.specs.declared.arguments.WordsFault.TheVariants.{NotText, NoMemory}

-- a word that is not UTF-8 stands after the program's name, whose place is 0
abbrev pub IsPlaced : WordsFault → Type 0
IsPlaced (NotText place) = 1 ≤ place
IsPlaced NoMemory = Unit {0}

-- the meaning of the system's answer, if the word had room for so many bytes: a longer word is
-- requested again with twice the room, or with the most that a number can say
abbrev pub outcome : Result ℕ FillError → ℕ → Outcome
outcome (Ok count) room = Word count
outcome (Err NotPresent) room = End
outcome (Err TooLong) room = Again (min (room + room) (2 ^ 64 - 1))
