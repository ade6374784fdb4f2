-- The edges of a worker, while it works.
use Rattle.std.specs.Prelude.{◌==◌, ◌&&◌, not, ℕ, ◌-◌, ◌++◌, Bool, true, false, Option, Some, None, List, [], ◌∷◌, length, slice_get}
use Rattle.std.specs.Option.{option_map_or}
use Rattle.vme_model.specs.declared.signals.Cycle.{Cycle}
use Rattle.vme_model.specs.declared.signals.Cycle.TheVariants.{Acknowledge, Access}
use Rattle.vme_model.specs.Signals.{is_same_driver, is_same_wire}
use Rattle.vme_model.specs.declared.signals.Edge.{Edge}

-- the edges so far, and how many more fit before room has to be made
pub record Filling : Type 0 where
  pub edges : List Edge
  pub room : ℕ

-- the edges of all pages
abbrev pub edges_in : List (List Edge) → List Edge
edges_in [] = []
edges_in (page ∷ pages) = page ++ edges_in pages

-- what fits in the last page of 256 edges; 0 without a page
abbrev pub room_of : List (List Edge) → ℕ
room_of pages = option_map_or (λ page. 256 - length page) (slice_get pages (length pages - 1)) 0

abbrev pub is_same_cycle : Cycle → Cycle → Bool
is_same_cycle (Acknowledge m) (Acknowledge n) = m == n
is_same_cycle (Access s) (Access t) = s == t
is_same_cycle _ _ = false

abbrev pub is_same_value : Option Cycle → Option Cycle → Bool
is_same_value None None = true
is_same_value (Some c) (Some d) = is_same_cycle c d
is_same_value _ _ = false

abbrev pub is_same_turn : Bool → Bool → Bool
is_same_turn true fall = fall
is_same_turn false fall = not fall

abbrev pub is_same_edge : Edge → Edge → Bool
is_same_edge e f =
    is_same_driver e.driver f.driver && is_same_wire e.wire f.wire
    && is_same_turn e.fall f.fall && is_same_value e.value f.value
