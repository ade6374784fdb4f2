-- A daisy chain, as the slots whose boards work it and the segments between them. (Chapters 3 and
-- 4.)
use Rattle.std.specs.Prelude.{◌+◌, ℕ, Bool, false, not, List, ◌∷◌, length, map, get_or, replicate, nat_lt}
use Rattle.std.specs.List.{count_by, list_all}
use Rattle.vme_model.specs.declared.sets.ChainId.{ChainId}
use Rattle.vme_model.specs.declared.signals.Edge.{Edge}
use Rattle.vme_model.specs.Plan.{Plan, active}
use Rattle.vme_model.specs.History.{segment}
use Rattle.std.specs.Prelude.{Some, None}

-- a chain: segment 0 is the controller's, segment k that of the k-th active slot
pub record Segments : Type 0 where
  -- the slots that work the chain, ascending
  pub active : List ℕ
  -- for each segment, whether it is low
  pub low : List Bool

-- a chain that is high everywhere
abbrev pub all_high : List ℕ → Segments
all_high active = record { active = active; low = replicate (length active + 1) false }

-- the number of the segment that a slot reads: that of the greatest active slot below it, or 0 for
-- the controller's
abbrev pub input_number : List ℕ → ℕ → ℕ
input_number active s = count_by (λ t. nat_lt t s) active

-- the number of the segment that an active slot drives: each output is the next slot's input
abbrev pub output_number : List ℕ → ℕ → ℕ
output_number active s = input_number active (s + 1)

-- a slot's input
abbrev pub input : Segments → ℕ → Bool
input c s = get_or c.low (input_number c.active s) false

-- how many segments are low
abbrev pub low_count : Segments → ℕ
low_count c = count_by (λ is_low. is_low) c.low

-- every segment is high
abbrev pub is_clear : Segments → Bool
is_clear c = list_all not c.low

-- the last segment is low
abbrev pub is_past_end : Segments → Bool
is_past_end c = get_or c.low (length c.active) false

-- the segments of a plan's chain after a history
abbrev pub segments_of : Plan → List Edge → ChainId → Segments
segments_of p h c = record {
  active = active p c;
  low = segment h c None ∷ map (λ s. segment h c (Some s)) (active p c);
}
