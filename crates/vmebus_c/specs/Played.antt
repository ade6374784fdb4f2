-- What is drawn for a bench that drives a part of the wires itself.
use Rattle.std.specs.Prelude.{◌==◌, ◌&&◌, ◌≡◌, ◌<◌, ◌-◌, ◌/◌, ◌%◌, ◌^◌, ℕ, Bool, Option, Some, None, List, filter, nat_lt, slice_index}
use Rattle.std.specs.List.{flat_map, Contains}
use Rattle.vme_model.specs.declared.signals.Version.{Version}
use Rattle.vme_model.specs.declared.signals.Edge.{Edge}
use Rattle.vme_model.specs.Signals.{driver_number, wire_number}
use Rattle.vme_model.specs.Plan.{Plan}
use Rattle.vme_model.specs.Text.{all_drivers}
use Rattle.vme_histories.specs.Opens.{open_but_full}
use Rattle.vme_seeds.specs.declared.draws.Draws.{Draws}
use Rattle.vme_seeds.specs.declared.kinds.Kind.{Kind}
use Rattle.vme_seeds.specs.Kinds.{has_board, kind_of}
use Rattle.vme_seeds.specs.Draws.{made_of, next_by, weight_of}
use Rattle.vmebus_c.specs.Numbers.{edge_number}

-- the library plays the edge's wire: in the mask of its driver the bit of the wire is set, and the
-- masks are the controller's and then one for each slot
abbrev pub is_played : List ℕ → Edge → Bool
is_played wires e =
    nat_lt (wire_number e.wire) 16
    && slice_index wires (driver_number e.driver) / 2 ^ wire_number e.wire % 2 == 1

-- the open edges of the wires that are played, those of the controller first, then by slot
abbrev pub played : Version → Plan → List Edge → List ℕ → List Edge
played version p h wires =
    flat_map (λ d. filter (is_played wires) (open_but_full version p h d)) all_drivers

-- the edge that is drawn of them; none if none is open
abbrev pub drawn_edge : Version → Plan → List Edge → List ℕ → Draws → Option Edge
drawn_edge version p h wires d = next_by d (has_board p) (played version p h wires)

-- each kind of edge has a weight, as a seed gives it
abbrev pub AreWeighed : Draws → Type 0
AreWeighed d = (k : Kind) → 0 < weight_of d k

-- the words of a seed before its first draw: one for the weight of each kind
abbrev pub weighing_words : ℕ
weighing_words = 28

-- 0 if an edge was drawn, and 1 if there was none
abbrev pub drawn_answer : Option Edge → ℕ
drawn_answer (Some e) = 0
drawn_answer None = 1

-- the edge that was drawn as a number, or 0
abbrev pub drawn_number : Option Edge → ℕ
drawn_number (Some e) = edge_number e
drawn_number None = 0

-- a number is that of one of these edges
abbrev pub IsNumberIn : List Edge → ℕ → Type 0
IsNumberIn es n = (e : Edge) × Contains es e × (n ≡ edge_number e)

-- if the count of the edge's kind is at its greatest, no count changes; none changes none
abbrev pub IsFullKept : (ℕ → Bool) → Option Edge → Draws → Draws → Type 0
IsFullKept boards (Some e) old new =
    made_of old (kind_of boards e) ≡ 2 ^ 32 - 1 → new.made ≡ old.made
IsFullKept boards None old new = new.made ≡ old.made
