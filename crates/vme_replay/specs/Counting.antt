-- A number whose last digit stands apart, and the others in a row of bytes before some that do not
-- matter.
use Rattle.std.specs.Prelude.{◌≡◌, ◌+◌, ◌-◌, ◌*◌, ◌^◌, ◌<◌, ◌≤◌, ℕ, zero, suc, List, [], ◌++◌, length, drop, codes, decimal}

-- the digits before a number's last one, if these are its tens
abbrev pub tens_text : ℕ → List ℕ
tens_text zero = []
tens_text (suc n) = decimal (suc n)

-- what stands after them
abbrev pub filler : List ℕ
filler = codes "........................"

-- the digits of the tens begin at the first place, and end at place 20
pub record IsSpelled (tens last first : ℕ) (line : List ℕ) : Type 0 where
  pub least : 48 ≤ last
  pub most : last < 58
  pub small : 10 * tens + (last - 48) ≤ 2 ^ 64
  pub ends : first + length (tens_text tens) ≡ 20
  pub is : drop first line ≡ tens_text tens ++ filler
