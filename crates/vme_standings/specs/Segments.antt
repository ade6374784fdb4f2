-- Which segments of the daisy chains a set holds. A segment is named by its chain and by its place:
-- the slot of the board that drives it, or 0 for the controller's.
use Rattle.std.specs.Prelude.{ℕ, Bool, slice_index_or}
use Rattle.vme_model.specs.declared.sets.ChainId.{ChainId}
use Rattle.vme_model.specs.declared.sets.ChainId.TheVariants.{Bg0, Bg1, Bg2, Bg3, Iack}
use Rattle.vme_bus.specs.declared.sets.SlotSet.{SlotSet}
use Rattle.vme_bus.specs.Sets.{has}
use Rattle.vme_standings.specs.declared.segments.Segments.{Segments}
use Rattle.vme_standings.specs.Phases.{no_slots}

-- the places of the set's segments of a chain
abbrev pub row_of : Segments → ChainId → SlotSet
row_of s Bg0 = slice_index_or s.grants 0 no_slots
row_of s Bg1 = slice_index_or s.grants 1 no_slots
row_of s Bg2 = slice_index_or s.grants 2 no_slots
row_of s Bg3 = slice_index_or s.grants 3 no_slots
row_of s Iack = s.acknowledge

-- the set holds the segment
abbrev pub has_segment : Segments → ChainId → ℕ → Bool
has_segment s c place = has (row_of s c) place
