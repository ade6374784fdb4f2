-- A walk: edges that are drawn one by one, by the numbers of a seed. (Profile.)
use Rattle.std.specs.Prelude.{ℕ, zero, suc, Option}
use Rattle.std.specs.Option.{option_map_or}
use Rattle.vme_model.specs.declared.signals.Edge.{Edge}
use Rattle.vme_model.specs.Verdict.{State, made}
use Rattle.rand_pcg.specs.Lcg.{Lcg}
use Rattle.vme_seeds.specs.declared.kinds.Kind.{Kind}
use Rattle.vme_seeds.specs.Numbers.{generator, after_words, word}
use Rattle.vme_seeds.specs.Choices.{weight, draw_on, chosen_by}

-- where a walk stands: its seed, its backplane, and its generator
pub record Walk : Type 0 where
  pub seed : ℕ
  pub state : State
  pub numbers : Lcg

-- the weights that the walk's seed gives to the kinds, by its first words
abbrev pub weights : Walk → Kind → ℕ
weights w k = weight (generator w.seed) k

-- a walk before its first edge: one word was taken for the weight of each kind
abbrev pub at_start : State → ℕ → Walk
at_start b seed = record { seed = seed; state = b; numbers = after_words 28 (generator seed) }

-- the edge that two words choose among the open edges
abbrev pub chosen : Walk → ℕ → ℕ → Option Edge
chosen w first second = chosen_by (draw_on (weights w) w.state) first second

-- the edge that the next two words choose; none if no edge is open
abbrev pub next_edge : Walk → Option Edge
next_edge w = chosen w (word w.numbers) (word (after_words 1 w.numbers))

-- the walk with both numbers drawn
abbrev pub drawn : Walk → Walk
drawn w = record w { numbers = after_words 2 w.numbers }

-- the walk with an edge made
abbrev pub with_edge : Walk → Edge → Walk
with_edge w e = record w { state = made w.state e }

-- the walk after n edges, or after as many as there are until none is open
abbrev pub walked : ℕ → Walk → Walk
walked zero w = w
walked (suc more) w =
    option_map_or (λ e. walked more (with_edge (drawn w) e)) (next_edge w) (drawn w)
