-- What a build of the library says of itself.
use Rattle.std.specs.Prelude.{ℕ, List, [], ◌∷◌}

-- the version 2.0.0, a byte for each number, how many words a bus and draws have, and 1 for a
-- library that is proved
abbrev pub build_numbers : List ℕ
build_numbers = 131072 ∷ 165 ∷ 37 ∷ 1 ∷ []
