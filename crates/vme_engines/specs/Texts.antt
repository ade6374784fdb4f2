-- A text that is put together before it is written.
use Rattle.std.specs.Prelude.{◌≡◌, ℕ, List, ◌++◌, Option}
use Rattle.std.specs.Io.KnownBytes.{Appends}

-- a prefix of the text went to a writer, and the text holds the rest
abbrev pub HandsOn : Option (List ℕ) → Option (List ℕ) → List ℕ → List ℕ → Type 0
HandsOn old new text rest = (prefix : List ℕ) × (text ≡ prefix ++ rest) × Appends old new prefix
