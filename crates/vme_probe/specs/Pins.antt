-- The probed pins, as segments of the daisy chains.
use Rattle.std.specs.Prelude.{◌≡◌, ◌==◌, ◌&&◌, ◌||◌, not, if◌then◌else◌, ℕ, Bool, false, List, Option, Some, None, find, nat_lt}
use Rattle.std.specs.Option.{option_map_or}
use Rattle.vme_model.specs.declared.sets.ChainId.{ChainId}
use Rattle.vme_captures.specs.declared.reader.Probe.{Probe}
use Rattle.vme_captures.specs.declared.signals.Segment.{Segment}
use Rattle.vme_captures.specs.Signals.{is_same_segment}
use Rattle.vme_standings.specs.declared.segments.Segments.{Segments}
use Rattle.vme_standings.specs.Segments.{has_segment}

-- the segment that the board in the slot drives; 0 stands for the controller
abbrev pub segment_at : ChainId → ℕ → Segment
segment_at c s = record { chain = c; place = if s == 0 then None else Some s }

-- the probe on a segment, if there is one
abbrev pub probe_at : List Probe → Segment → Option Probe
probe_at probes g = find (λ r. is_same_segment r.wire g) probes

-- there is a probe on the segment; if `low`, one that is low
abbrev pub is_in : Bool → List Probe → Segment → Bool
is_in low probes g = option_map_or (λ r. r.low || not low) (probe_at probes g) false

-- the set holds the segments with a probe; if `low`, of these those that are low
abbrev pub HoldsProbed : Bool → List Probe → Segments → Type 0
HoldsProbed low probes set =
    (c : ChainId) (s : ℕ) → has_segment set c s ≡ (nat_lt s 22 && is_in low probes (segment_at c s))
