-- What is written.
use Rattle.std.specs.Prelude.{◌≡◌, ℕ, List, ◌∷◌, [], ◌++◌, Option}
use Rattle.std.specs.Io.KnownBytes.{Appends}
use Rattle.vme_model.specs.declared.signals.Edge.{Edge}
use Rattle.vme_model.specs.Text.{spelling}

-- the line of an edge
abbrev pub edge_line : Edge → List ℕ
edge_line e = spelling e ++ 10 ∷ []

-- a prefix of the bytes went to a writer
abbrev pub AppendsFront : Option (List ℕ) → Option (List ℕ) → List ℕ → Type 0
AppendsFront old new bytes =
    (front : List ℕ) × (others : List ℕ) × (bytes ≡ front ++ others) × Appends old new front
