-- What holds for every walk: nothing is left out, every number can be drawn, and draws without a
-- bus make the same walk.
use Rattle.std.specs.Prelude.{◌≡◌, ◌<◌, ◌≤◌, ◌^◌, ℕ, Some, Ok, sum}
use Rattle.std.specs.List.{Contains}
use Rattle.vme_model.specs.declared.signals.Edge.{Edge}
use Rattle.vme_model.specs.Accepted.{IsAccepted}
use Rattle.vme_model.specs.Verdict.{State, verdict}
use Rattle.rand_pcg.specs.Lcg.{Lcg}
use Rattle.vme_seeds.specs.Kinds.{kinds, has_board, kind_of}
use Rattle.vme_seeds.specs.Numbers.{after_words, scaled}
use Rattle.vme_seeds.specs.Choices.{Draw, weight, all_open, chances, choices, chosen_by, edge_at, edge_by}
use Rattle.vme_seeds.specs.declared.kinds.Kind.{Kind}
use Rattle.vme_seeds.specs.declared.draws.Draws.{Draws}
use Rattle.vme_seeds.specs.Draws.{numbers_of, weight_of, next_by}
use Rattle.vme_seeds.specs.Tallies.{AreCounts, CountsIn}
use Rattle.vme_seeds.specs.Walks.{Walk, weights, next_edge, drawn, with_edge}

-- two numbers choose the edge, each below the bound below which it is drawn
pub record IsChosen (g : Lcg) (b : State) (e : Edge) : Type 0 where
  pub x : ℕ
  pub y : ℕ
  pub within : x < sum (chances (weight g) b)
  pub among : y < choices (weight g) b x
  pub chosen : edge_at (weight g) b x y ≡ Some e

-- each edge that the rules allow is of a kind that is drawn, and is chosen by some two numbers
abbrev pub EachCanBeMade : Type 0
EachCanBeMade = (g : Lcg) (b : State) (e : Edge) → IsAccepted b.plan → verdict b e ≡ Ok tt
    → Contains kinds (kind_of (has_board b.plan) e) × IsChosen g b e

-- whatever two numbers choose, the rules allow
abbrev pub EachIsOpen : Type 0
EachIsOpen = (g : Lcg) (b : State) (x y : ℕ) (e : Edge) → edge_at (weight g) b x y ≡ Some e
    → verdict b e ≡ Ok tt

-- each number below the sum of the chances chooses a kind with open edges, and then each number
-- below the number of these edges chooses one of them; so no walk ends while an edge is open
abbrev pub SomeIsMade : Type 0
SomeIsMade = (g : Lcg) (b : State) (x : ℕ) → x < sum (chances (weight g) b)
    → (0 < choices (weight g) b x)
    × ((y : ℕ) → y < choices (weight g) b x → (e : Edge) × (edge_at (weight g) b x y ≡ Some e))

-- each number below a bound is the draw of some word of 32 bits
abbrev pub NumbersAreDrawn : Type 0
NumbersAreDrawn = (n x : ℕ) → n ≤ 2 ^ 32 → x < n → (w : ℕ) × (w < 2 ^ 32) × (scaled w n ≡ x)

-- the draw of each word is below the bound
abbrev pub IsBelow : Type 0
IsBelow = (n w : ℕ) → 0 < n → w < 2 ^ 32 → scaled w n < n

-- what two numbers choose is one of the edges of the draw
abbrev pub OneOfThese : Type 0
OneOfThese = (d : Draw) (x y : ℕ) (e : Edge) → edge_by d x y ≡ Some e → Contains d.edges e

-- if each kind has a weight and there is an edge, any two words of 32 bits choose one
abbrev pub SomeIsDrawn : Type 0
SomeIsDrawn = (d : Draw) (e : Edge) (first second : ℕ)
    → ((k : Kind) → 0 < d.weight k) → Contains d.edges e → first < 2 ^ 32 → second < 2 ^ 32
    → (c : Edge) × (chosen_by d first second ≡ Some c)

-- the draws stand where a walk stands
pub record Follows (w : Walk) (d : Draws) : Type 0 where
  pub numbers : numbers_of d ≡ w.numbers
  pub weighed : (k : Kind) → weight_of d k ≡ weights w k
  pub counted : AreCounts (has_board w.state.plan) w.state.history d.made.counts

-- they draw, among all open edges, the one that the walk makes next
abbrev pub DrawAlike : Type 0
DrawAlike = (w : Walk) (d : Draws) → Follows w d
    → next_by d (has_board w.state.plan) (all_open w.state) ≡ next_edge w

-- with two words drawn and that edge counted, they stand where the walk stands with the edge
abbrev pub FollowOn : Type 0
FollowOn = (w : Walk) (d new : Draws) (e : Edge) → Follows w d
    → numbers_of new ≡ after_words 2 (numbers_of d) → new.weights ≡ d.weights
    → CountsIn (has_board w.state.plan) e d.made.counts new.made.counts
    → Follows (with_edge (drawn w) e) new
