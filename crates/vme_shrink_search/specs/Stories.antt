-- Stories: short lists of edges behind which the same is said of an edge. (Profile.)
-- A list has its edges in the order of time. A backplane that is named has no edge yet.
use Rattle.std.specs.Prelude.{◌≡◌, ◌≢◌, ◌⊎◌, ◌<◌, ◌≤◌, ◌+◌, ◌-◌, ◌*◌, ◌^◌, ◌++◌, ◌∷◌, [], ℕ, List, length, take, drop, reverse}
use Rattle.vme_model.specs.declared.signals.Edge.{Edge}
use Rattle.vme_model.specs.History.{in_order}
use Rattle.vme_model.specs.Verdict.{State, IsLegal, kept}
use Rattle.vme_shrink_search.specs.Replies.{reply}

-- the edges of a list that are accepted
abbrev pub accepted : State → List Edge → List Edge
accepted b es = in_order (kept b es).history

-- a list without its places from one up to another, and without what is then refused
abbrev pub without : State → List Edge → ℕ → ℕ → List Edge
without b g from to = accepted b (take from g ++ drop to g)

-- the first list is the second one with edges left out
abbrev pub IsPart : List Edge → List Edge → Type 0
IsPart [] h = Unit {0}
IsPart (e ∷ g) [] = ⊥
IsPart (e ∷ g) (f ∷ h) = ((e ≡ f) × IsPart g h) ⊎ IsPart (e ∷ g) h

-- A story g of a list h and an edge e: a legal part of h, behind which the same is said of e. With
-- any one edge left out of it something else is said.
pub record IsStory (b : State) (h : List Edge) (e : Edge) (g : List Edge) : Type 0 where
  pub part : IsPart g h
  pub legal : IsLegal b.version b.plan (reverse g)
  pub fits : length g ≤ b.max
  pub same : reply b g e ≡ reply b h e
  pub least : (i : ℕ) → i < length g → reply b (without b g i (i + 1)) e ≢ reply b h e

-- Without any stretch of this size something else is said. Stretches are counted from the end; the
-- last one, at the beginning, may be shorter.
abbrev pub IsTightAt : State → Edge → ℕ → List Edge → Type 0
IsTightAt b e size g = (n : ℕ) → n * size < length g
    → reply b (without b g (length g - (n + 1) * size) (length g - n * size)) e ≢ reply b g e

-- Without any stretch of 1, 2, 4 .. edges something else is said: a whole run leaves nothing out.
abbrev pub IsTight : State → Edge → List Edge → Type 0
IsTight b e g = (k : ℕ) → IsTightAt b e (2 ^ k) g

-- What a search may find: a story of which a further run leaves nothing out. A list of which a run
-- leaves nothing out stays as it is.
pub record IsFound (b : State) (h : List Edge) (e : Edge) (g : List Edge) : Type 0 where
  pub story : IsStory b h e g
  pub tight : IsTight b e g
  pub still : IsTight b e h → g ≡ h
