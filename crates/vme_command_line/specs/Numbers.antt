-- A number that a word spells.
use Rattle.std.specs.Prelude.{◌≡◌, ◌^◌, ◌<◌, ℕ}
use Rattle.std.specs.Str.Parse.{IsNumeral, digits_value, without_leading_plus}
use Rattle.clap.specs.Words.{Text}

-- a text spells this number, in decimal digits
abbrev pub IsSeed : Text → ℕ → Type 0
IsSeed text n = IsNumeral 10 (without_leading_plus text)
    × (digits_value 10 (without_leading_plus text) ≡ n) × (n < 2 ^ 64)
