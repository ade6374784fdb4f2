-- The numbers of a seed, and numbers drawn below a bound. (Profile.)
use Rattle.std.specs.Prelude.{ℕ, ◌*◌, ◌/◌, ◌^◌}
use Rattle.rand_pcg.specs.Lcg.{Lcg, advance, increment_of, started}
use Rattle.rand_pcg.specs.Pcg.{multiplier_64, pcg32}

-- the generator of a seed: its words are those of the first stream
abbrev pub generator : ℕ → Lcg
generator seed = started 64 multiplier_64 seed (increment_of 64 0)

-- the generator after some words
abbrev pub after_words : ℕ → Lcg → Lcg
after_words n g = advance 64 multiplier_64 n g

-- the next word of the generator
abbrev pub word : Lcg → ℕ
word g = (pcg32 g).0

-- the number below a bound on which a word of 32 bits falls; the numbers' shares of the words
-- differ by at most one word
abbrev pub scaled : ℕ → ℕ → ℕ
scaled w bound = w * bound / 2 ^ 32
