-- How a fault prints a character. A control character is escaped as in a TOML string, so that a
-- fault is one line. A backslash is escaped too, so that no name looks like an escape. Any other
-- character is printed as it is.
use Rattle.std.specs.Prelude.{ℕ, ◌+◌, ◌/◌, ◌%◌, ◌==◌, ◌||◌, nat_lt, if◌then◌else◌, List, [], ◌∷◌, ◌++◌, codes, encode_utf8}
use Rattle.std.specs.Char.{is_control}

-- a digit of a number in base 16
abbrev pub hex_digit : ℕ → ℕ
hex_digit n = if nat_lt n 10 then 48 + n else 87 + n

-- the escape of a control character, or of a backslash, 92
abbrev pub escape : ℕ → List ℕ
escape c =
    if c == 8 then codes "\\b"
    else if c == 9 then codes "\\t"
    else if c == 10 then codes "\\n"
    else if c == 12 then codes "\\f"
    else if c == 13 then codes "\\r"
    else if c == 92 then codes "\\\\"
    else codes "\\u00" ++ hex_digit (c / 16) ∷ hex_digit (c % 16) ∷ []

abbrev pub shown : ℕ → List ℕ
shown c = if is_control c || c == 92 then escape c else encode_utf8 c
