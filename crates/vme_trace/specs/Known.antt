-- Lines that were read before, and how they are looked up.
use Rattle.std.specs.Prelude.{◌≡◌, ◌<◌, ℕ, ◌+◌, ◌*◌, ◌^◌, List, [], ◌∷◌, ◌++◌, IsTrue, slice_index}
use Rattle.vme_model.specs.declared.signals.Edge.{Edge}
use Rattle.vme_model.specs.Signals.{is_well_formed}
use Rattle.vme_model.specs.Text.{spelling}
use Rattle.vme_trace.specs.declared.keys.Key.{Key}

-- the number that bytes spell in base 256, with the first byte lowest
abbrev pub number_of : List ℕ → ℕ
number_of [] = 0
number_of (b ∷ bs) = b + 256 * number_of bs

-- the two words of a key as one number
abbrev pub key_number : Key → ℕ
key_number key = key.low + 2 ^ 64 * key.high

-- the key of the line of a well-formed edge, with its line feed
pub record IsKeyOf (edge : Edge) (key : ℕ) : Type 0 where
  pub formed : IsTrue (is_well_formed edge)
  pub bytes : (k : ℕ) → slice_index (spelling edge) k < 256
  pub is : key ≡ number_of (spelling edge ++ 10 ∷ [])
