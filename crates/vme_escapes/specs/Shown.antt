-- How a name and a fault are printed on one line. A control character is escaped as in a TOML
-- string. A backslash is escaped too, so that no name looks like an escape. Any other character is
-- printed as it is.
use Rattle.std.specs.Prelude.{ℕ, ◌+◌, ◌/◌, ◌%◌, ◌==◌, ◌||◌, nat_lt, if◌then◌else◌, List, [], ◌∷◌, ◌++◌, Option, Some, None, unwrap_or, codes, encode_utf8}
use Rattle.std.specs.Char.{is_control}
use Rattle.std.specs.List.{flat_map}
use Rattle.std.specs.Str.{chars}

-- a digit of a number in base 16
abbrev pub hex_digit : ℕ → ℕ
hex_digit n = if nat_lt n 10 then 48 + n else 87 + n

abbrev pub numbered_escape : ℕ → List ℕ
numbered_escape c = codes "\\u00" ++ hex_digit (c / 16) ∷ hex_digit (c % 16) ∷ []

-- the escape of a control character, or of a backslash, 92
abbrev pub escape : ℕ → List ℕ
escape c =
    if c == 8 then codes "\\b"
    else if c == 9 then codes "\\t"
    else if c == 10 then codes "\\n"
    else if c == 12 then codes "\\f"
    else if c == 13 then codes "\\r"
    else if c == 92 then codes "\\\\"
    else numbered_escape c

-- the escape of a character that has one
abbrev pub escape_of : ℕ → Option (List ℕ)
escape_of c = if is_control c || c == 92 then Some (escape c) else None

abbrev pub shown : ℕ → List ℕ
shown c = unwrap_or (escape_of c) (encode_utf8 c)

-- a name, character by character
abbrev pub escaped : List ℕ → List ℕ
escaped name = flat_map shown (chars name)
