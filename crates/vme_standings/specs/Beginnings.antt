-- In which phases of the grants a bus can be that is running when a capture begins.
use Rattle.std.specs.Prelude.{◌≡◌, ◌<◌, ℕ, Bool, true, List, slice_index_or}
use Rattle.vme_model.specs.declared.sets.BusLevels.{BusLevels}
use Rattle.vme_model.specs.declared.signals.Version.{Version}
use Rattle.vme_model.specs.Plan.{Plan}
use Rattle.vme_bus.specs.declared.sets.SlotSet.{SlotSet}
use Rattle.vme_bus.specs.Sets.{has}
use Rattle.vme_standings.specs.declared.phases.GrantPhase.{GrantPhase}
use Rattle.vme_standings.specs.declared.phases.GrantPhases.{GrantPhases}
use Rattle.vme_standings.specs.Cuts.{is_possible}
use Rattle.vme_standings.specs.LowSegments.{is_low_in}
use Rattle.vme_standings.specs.Phases.{has_bit, has_phase, is_held, is_in_table, no_slots}

-- if a probe is on the segment, it is low in the phase exactly if the probe sees it low
abbrev pub ShowsAt : Plan → ℕ → SlotSet → SlotSet → ℕ → GrantPhase → Type 0
ShowsAt p c probed low s q = has probed s ≡ true → is_low_in p c s q ≡ has low s

-- the same of the segments of the level's chain
abbrev pub ShowsChain : Plan → List SlotSet → List SlotSet → ℕ → GrantPhase → Type 0
ShowsChain p probed low c q =
    (s : ℕ) → s < 22
    → ShowsAt p c (slice_index_or probed c no_slots) (slice_index_or low c no_slots) s q

-- the bus can be in the phase, with BBSY* and the probed segments as they are
pub record CanBegin (p : Plan) (version : Version) (requests : BusLevels) (held : Bool)
    (probed low : List SlotSet) (q : GrantPhase) : Type 0 where
  pub possible : is_possible p version requests q ≡ true
  pub bbsy : is_held q ≡ held
  pub shown : (c : ℕ) → c < 4 → ShowsChain p probed low c q

-- the new set has exactly those phases of the old one of which something holds
pub record KeepsPhases (P : GrantPhase → Type 0) (old new : GrantPhases) : Type 0 where
  pub only : (q : GrantPhase) → has_bit q ≡ true → has_phase new q ≡ true
      → (has_phase old q ≡ true) × P q
  pub all : (q : GrantPhase) → is_in_table q ≡ true → has_phase old q ≡ true → P q
      → has_phase new q ≡ true
