-- The draws of a seed, as numbers: its generator, its weights, and how many edges of each kind were
-- drawn. (Profile.)
use Rattle.std.specs.Prelude.{◌≡◌, ◌<◌, ◌+◌, ◌-◌, ◌*◌, ◌^◌, ℕ, Bool, Option, Some, None, List, nat_lt, slice_index}
use Rattle.vme_model.specs.declared.signals.Edge.{Edge}
use Rattle.rand_pcg.specs.Lcg.{Lcg, increment_of}
use Rattle.vme_seeds.specs.declared.kinds.Kind.{Kind}
use Rattle.vme_seeds.specs.declared.draws.Draws.{Draws}
use Rattle.vme_seeds.specs.Kinds.{number, kind_of}
use Rattle.vme_seeds.specs.Numbers.{after_words, word}
use Rattle.vme_seeds.specs.Choices.{Draw, chosen_by}
use Rattle.vme_seeds.specs.Tallies.{CountsIn}

-- the generator: that of the first stream, at the state of two words
abbrev pub numbers_of : Draws → Lcg
numbers_of d = record { state = d.low + d.high * 2 ^ 32; increment = increment_of 64 0 }

-- the weight of a kind, and how many of its edges were drawn
abbrev pub weight_of : Draws → Kind → ℕ
weight_of d k = slice_index d.weights.by_kind (number k)

abbrev pub made_of : Draws → Kind → ℕ
made_of d k = slice_index d.made.counts (number k)

-- a draw among these edges, by the slots that have a board
abbrev pub draw_by : Draws → (ℕ → Bool) → List Edge → Draw
draw_by d boards es =
    record { weight = weight_of d; made = made_of d; boards = boards; edges = es }

-- the edge that the next two words choose
abbrev pub next_by : Draws → (ℕ → Bool) → List Edge → Option Edge
next_by d boards es =
    chosen_by (draw_by d boards es) (word (numbers_of d)) (word (after_words 1 (numbers_of d)))

-- they are of some seed: the first kind has a weight, and zeros have none
abbrev pub is_seeded : Draws → Bool
is_seeded d = nat_lt 0 (slice_index d.weights.by_kind 0)

-- the edge that was drawn is counted, unless its count is at its greatest; none is no edge more
abbrev pub IsCountedIn : (ℕ → Bool) → Option Edge → Draws → Draws → Type 0
IsCountedIn boards (Some e) old new =
    made_of old (kind_of boards e) < 2 ^ 32 - 1 → CountsIn boards e old.made.counts new.made.counts
IsCountedIn boards None old new = new.made ≡ old.made
