-- How many conditions of a guard may fail, and so how much room their list needs.
use Rattle.std.specs.Prelude.{◌+◌, ℕ}
use Rattle.vme_model.specs.Guards.{Guard, free, asks, ◌⊓◌, unless}

-- an upper bound on how many conditions of a guard fail
abbrev pub most : Guard → ℕ
most free = 0
most (asks c b) = 1
most (g ⊓ k) = most g + most k
most (unless b g) = most g
