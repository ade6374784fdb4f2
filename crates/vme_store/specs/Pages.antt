-- How the edges of a trace stand in its pages.
use Rattle.std.specs.Prelude.{◌≡◌, ◌+◌, ◌-◌, ◌/◌, ◌++◌, ℕ, List, [], ◌∷◌, length, min}
use Rattle.vme_model.specs.declared.signals.Edge.{Edge}

-- the edges of a page, oldest first, and how many it can hold
pub record Page : Type 0 where
  pub edges : List Edge
  pub room : ℕ

-- the edges that are kept, the newest first, and how many can be kept
pub record Store : Type 0 where
  pub history : List Edge
  pub max : ℕ

-- how many edges a page holds at most
abbrev pub page_size : ℕ
page_size = 65536

-- how many pages are needed for max edges
abbrev pub pages_for : ℕ → ℕ
pages_for max = (max + page_size - 1) / page_size

-- room for max edges, n of which are kept: each page is full before the next one is begun
abbrev pub ArePages : ℕ → ℕ → List Page → Type 0
ArePages max n [] = max ≡ 0
ArePages max n (p ∷ ps) =
    (p.room ≡ min max page_size) × (length p.edges ≡ min n page_size)
    × ArePages (max - page_size) (n - page_size) ps

-- the edges in the pages, oldest first
abbrev pub stored : List Page → List Edge
stored [] = []
stored (p ∷ ps) = p.edges ++ stored ps
