-- The next edge, among all that are open. (Profile.)
use Rattle.std.specs.Prelude.{◌==◌, ◌+◌, ◌-◌, ◌*◌, ◌/◌, ◌^◌, ℕ, Bool, Option, None, List, [], ◌∷◌, if◌then◌else◌, length, nat_lt, map, slice_get, sum}
use Rattle.std.specs.List.{flat_map}
use Rattle.std.specs.Option.{option_map_or}
use Rattle.vme_model.specs.declared.signals.Edge.{Edge}
use Rattle.vme_model.specs.Plan.{drivers}
use Rattle.vme_model.specs.Open.{open_edges}
use Rattle.vme_model.specs.Verdict.{State}
use Rattle.vme_seeds.specs.declared.kinds.Kind.{Kind}
use Rattle.rand_pcg.specs.Lcg.{Lcg}
use Rattle.vme_seeds.specs.Kinds.{kinds, number, has_board, of_kind, count}
use Rattle.vme_seeds.specs.Numbers.{after_words, word, scaled}

-- the weight that a generator gives to a kind: 4 to the power of a draw below 4, from the word that
-- is the kind's own
abbrev pub weight : Lcg → Kind → ℕ
weight g k = 4 ^ scaled (word (after_words (number k) g)) 4

-- the open edges of all drivers, those of the controller first, then by slot
abbrev pub all_open : State → List Edge
all_open b = flat_map (open_edges b) (drivers b.plan)

-- the open edges of a kind
abbrev pub open_of : State → Kind → List Edge
open_of b k = of_kind (has_board b.plan) k (all_open b)

-- the chance of a kind, by its weight and by how many of its edges were made and are open: the
-- fewer were made, the greater it is, and it is 0 if none is open
abbrev pub chance : ℕ → ℕ → ℕ → ℕ
chance weight made ready = if ready == 0 then 0 else weight * (1 + 256 / (1 + made))

-- the place of a number among chances: they are subtracted from it one after another, and the place
-- is that of the first chance that is above what is left, or past the last if none is
abbrev pub falls_at : List ℕ → ℕ → ℕ
falls_at [] x = 0
falls_at (c ∷ cs) x = if nat_lt x c then 0 else falls_at cs (x - c) + 1

-- by what an edge is drawn: the weight of each kind, how many edges of each were made, the slots
-- that have a board, and the edges among which it is drawn
pub record Draw : Type 0 where
  pub weight : Kind → ℕ
  pub made : Kind → ℕ
  pub boards : ℕ → Bool
  pub edges : List Edge

-- the chance of a kind
abbrev pub chance_by : Draw → Kind → ℕ
chance_by d k = chance (d.weight k) (d.made k) (count d.boards k d.edges)

-- the chances of all kinds, in their order
abbrev pub chances_by : Draw → List ℕ
chances_by d = map (chance_by d) kinds

-- the kind on which x falls
abbrev pub kind_by : Draw → ℕ → Option Kind
kind_by d x = slice_get kinds (falls_at (chances_by d) x)

-- the edge at place y among the edges of that kind
abbrev pub edge_by : Draw → ℕ → ℕ → Option Edge
edge_by d x y =
    option_map_or (λ k. slice_get (of_kind d.boards k d.edges) y) (kind_by d x) None

-- how many edges that kind has
abbrev pub choices_by : Draw → ℕ → ℕ
choices_by d x = option_map_or (λ k. length (of_kind d.boards k d.edges)) (kind_by d x) 0

-- the edge that two words choose: the first draws the kind, and the second one of its edges
abbrev pub chosen_by : Draw → ℕ → ℕ → Option Edge
chosen_by d first second =
    let x = scaled first (sum (chances_by d)) in edge_by d x (scaled second (choices_by d x))

-- a draw on a backplane, among all its open edges, by the weights of the kinds
abbrev pub draw_on : (Kind → ℕ) → State → Draw
draw_on weight b = record {
  weight = weight;
  made = λ k. count (has_board b.plan) k b.history;
  boards = has_board b.plan;
  edges = all_open b;
}

abbrev pub chance_of : (Kind → ℕ) → State → Kind → ℕ
chance_of weight b k = chance_by (draw_on weight b) k

abbrev pub chances : (Kind → ℕ) → State → List ℕ
chances weight b = chances_by (draw_on weight b)

abbrev pub kind_at : (Kind → ℕ) → State → ℕ → Option Kind
kind_at weight b x = kind_by (draw_on weight b) x

abbrev pub edge_at : (Kind → ℕ) → State → ℕ → ℕ → Option Edge
edge_at weight b x y = edge_by (draw_on weight b) x y

abbrev pub choices : (Kind → ℕ) → State → ℕ → ℕ
choices weight b x = choices_by (draw_on weight b) x
