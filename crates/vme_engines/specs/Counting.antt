-- A number whose digits stand in a row of bytes, before others that do not matter.
use Rattle.std.specs.Prelude.{◌≡◌, ◌+◌, ℕ, List, ◌++◌, length, drop, codes, decimal}

-- what stands after the number
abbrev pub filler : List ℕ
filler = codes "........................"

-- the digits of n begin at the first place, and end at place 20
pub record IsSpelled (n first : ℕ) (line : List ℕ) : Type 0 where
  pub ends : first + length (decimal n) ≡ 20
  pub is : drop first line ≡ decimal n ++ filler
