-- What may be so in a phase of the grants and BBSY*.
use Rattle.std.specs.Prelude.{◌≡◌, ◌==◌, ◌&&◌, ◌||◌, not, if◌then◌else◌, ℕ, Bool, true, false, Option, Some, nat_lt, nat_le}
use Rattle.std.specs.Option.{option_map_or, option_map}
use Rattle.vme_model.specs.declared.sets.BusLevels.{BusLevels}
use Rattle.vme_model.specs.declared.signals.Version.{Version}
use Rattle.vme_model.specs.Signals.{is_two}
use Rattle.vme_model.specs.Sets.{has_bus_level}
use Rattle.vme_model.specs.Plan.{Plan}
use Rattle.vme_bus.specs.declared.sets.SlotSet.{SlotSet}
use Rattle.vme_standings.specs.declared.cuts.PhaseFact.{PhaseFact}
use Rattle.vme_standings.specs.declared.cuts.PhaseFact.TheVariants as fact
use Rattle.vme_standings.specs.declared.cuts.PhaseRow.{PhaseRow}
use Rattle.vme_standings.specs.declared.cuts.PhaseRow.TheVariants as row
use Rattle.vme_standings.specs.declared.phases.GrantPhase.{GrantPhase}
use Rattle.vme_standings.specs.declared.phases.GrantPhase.TheVariants.{Idle, Granting, Held, Expired}
use Rattle.vme_standings.specs.declared.phases.GrantPhases.{GrantPhases}
use Rattle.vme_standings.specs.GrantChains.{end_place, is_of_level, requester_at}
use Rattle.vme_standings.specs.Grants.{is_asked_above, is_picked}
use Rattle.vme_standings.specs.LowSegments.{is_low_in, is_segment}
use Rattle.vme_standings.specs.Phases.{expired_row, granting_row, is_held, is_held_by, is_idle_at}

-- the level last granted: that of the holder, if somebody holds the bus
abbrev pub last_level : Plan → GrantPhase → Option ℕ
last_level p (Idle c) = Some c
last_level p (Granting c last) = Some c
last_level p (Held b first) = option_map (λ q. q.level) (requester_at p b)
last_level p (Expired c first) = Some c

-- no segment of the controller is low
abbrev pub are_grants_high : GrantPhase → Bool
are_grants_high (Idle c) = true
are_grants_high (Granting c last) = false
are_grants_high (Held b first) = nat_lt 0 first
are_grants_high (Expired c first) = true

-- no segment of the grant chains is low
abbrev pub are_all_high : GrantPhase → Bool
are_all_high (Idle c) = true
are_all_high (Granting c last) = false
are_all_high (Held b first) = nat_le b first
are_all_high (Expired c first) = false

-- somebody took the grant of the level, or it has passed the last board of its chain
abbrev pub is_past_all : Plan → ℕ → GrantPhase → Bool
is_past_all p c q = is_held q || is_low_in p c (end_place p c) q

-- a grant waits at no board: there is none, or it has passed the last board of its chain
abbrev pub is_nowhere : Plan → GrantPhase → Bool
is_nowhere p (Granting c last) = last == end_place p c
is_nowhere p _ = true

-- A bus can be in the phase: the chain has boards, and the segments that it names. In the first
-- version a grant is low only while its level is requested, and the last board does not pass it on.
abbrev pub is_possible : Plan → Version → BusLevels → GrantPhase → Bool
is_possible p version requests (Idle c) = true
is_possible p version requests (Granting c last) =
    (is_segment p c last && not (end_place p c == 0))
    && (is_two version || (has_bus_level requests c && not (last == end_place p c)))
is_possible p version requests (Held b first) =
    option_map_or (λ q. is_segment p q.level first) (requester_at p b) false && nat_le first b
is_possible p version requests (Expired c first) = is_two version && is_of_level p c first

-- the fact is so in the phase
abbrev pub is_so : Plan → PhaseFact → GrantPhase → Bool
is_so p (fact.SegmentLow c s) q = is_low_in p c s q
is_so p (fact.SegmentHigh c s) q = not (is_low_in p c s q)
is_so p fact.BusyLow q = is_held q
is_so p fact.BusyHigh q = not (is_held q)
is_so p (fact.HeldBy b) q = is_held_by (λ k. k == b) q
is_so p (fact.NotHeldBy b) q = not (is_held_by (λ k. k == b) q)
is_so p (fact.Picked requests c) q =
    option_map_or (λ last. is_picked p requests last c) (last_level p q) false
is_so p (fact.AskedAbove requests) q =
    option_map_or (λ last. is_asked_above last requests) (last_level p q) false
is_so p fact.GrantsHigh q = are_grants_high q
is_so p fact.AllHigh q = are_all_high q
is_so p (fact.PastAll c) q = is_past_all p c q
is_so p (fact.Possible version requests) q = is_possible p version requests q

-- the phase at a place of a row of the set
abbrev pub phase_at : PhaseRow → ℕ → GrantPhase
phase_at (row.Granting c) t = Granting c t
phase_at (row.Held b) t = Held b t
phase_at (row.Expired c) t = Expired c t

-- the new set is the old one but for the phases of a level in which nobody holds the bus
pub record ChangesLevel (level : ℕ) (may_be : Bool) (lasts firsts : SlotSet)
    (old new : GrantPhases) : Type 0 where
  pub idle : (n : ℕ) → is_idle_at new n ≡ (if n == level then may_be else is_idle_at old n)
  pub granting : (n : ℕ)
      → granting_row new n ≡ (if n == level then lasts else granting_row old n)
  pub expired : (n : ℕ) → expired_row new n ≡ (if n == level then firsts else expired_row old n)
  pub held : new.held ≡ old.held
