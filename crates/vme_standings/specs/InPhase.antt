-- When a bus is in a phase of the grants and BBSY*, by looking back through the list of edges. A
-- segment of a grant chain is named by the slot of the board that drives it, and 0 names the
-- controller's. (The chains are those of chapter 3; that these are the phases of a tenure is this
-- project's profile.)
use Rattle.std.specs.Prelude.{◌≡◌, ◌==◌, ◌&&◌, ◌<◌, ℕ, zero, suc, Bool, true, false, List, Some, None, nat_le, slice_index_or}
use Rattle.std.specs.Option.{option_map_or}
use Rattle.vme_model.specs.declared.signals.Driver.TheVariants.{Controller, Slot}
use Rattle.vme_model.specs.declared.signals.Edge.{Edge}
use Rattle.vme_model.specs.declared.signals.Version.{Version}
use Rattle.vme_model.specs.declared.signals.Wire.TheVariants.{Bg, BgOut, Bbsy}
use Rattle.vme_model.specs.declared.sets.BusLevels.{BusLevels}
use Rattle.vme_model.specs.History.{drive, last_level as last_granted, request_line}
use Rattle.vme_model.specs.Plan.{Plan, grant_chain}
use Rattle.vme_model.specs.Sets.{has_bus_level}
use Rattle.vme_bus.specs.declared.sets.SlotSet.{SlotSet}
use Rattle.vme_bus.specs.Sets.{has}
use Rattle.vme_captures.specs.declared.signals.Pin.{Pin}
use Rattle.vme_captures.specs.declared.signals.Segment.{Segment}
use Rattle.vme_captures.specs.Wires.{pin_on}
use Rattle.vme_standings.specs.declared.phases.GrantPhase.{GrantPhase}
use Rattle.vme_standings.specs.declared.phases.GrantPhase.TheVariants.{Idle, Granting, Held, Expired}
use Rattle.vme_standings.specs.declared.phases.GrantPhases.{GrantPhases}
use Rattle.vme_standings.specs.Cuts.{last_level}
use Rattle.vme_standings.specs.GrantChains.{is_of_level, requester_at}
use Rattle.vme_standings.specs.LowSegments.{is_low_in, is_segment}
use Rattle.vme_standings.specs.Phases.{has_phase, is_held_by, no_slots}
use Rattle.vme_standings.specs.Unseen.{has_row_for, is_unseen, leads}

-- the segment of the level's chain is low
abbrev pub is_place_low : List Edge → ℕ → ℕ → Bool
is_place_low h c zero = drive h Controller (Bg c)
is_place_low h c (suc s) = drive h (Slot (suc s)) BgOut

-- the chain has the segment that the phase names
abbrev pub is_named : Plan → GrantPhase → Bool
is_named p (Idle c) = true
is_named p (Granting c last) = is_segment p c last
is_named p (Held b first) =
    option_map_or (λ q. is_segment p q.level first) (requester_at p b) false && nat_le first b
is_named p (Expired c first) = is_of_level p c first

-- The bus is in the phase: the level last granted is that of the phase, its holder alone drives
-- BBSY*, and of the four grant chains exactly the segments of the phase are low.
pub record InPhase (p : Plan) (h : List Edge) (q : GrantPhase) : Type 0 where
  pub named : is_named p q ≡ true
  pub granted : last_level p q ≡ Some (last_granted h)
  pub held : (s : ℕ) → drive h (Slot s) Bbsy ≡ is_held_by (λ b. b == s) q
  pub low : (c s : ℕ) → c < 4 → is_segment p c s ≡ true
      → is_place_low h c s ≡ is_low_in p c s q

-- the set covers the bus: it has a phase in which the bus is
pub record CoversGrants (p : Plan) (h : List Edge) (set : GrantPhases) : Type 0 where
  pub phase : GrantPhase
  pub is_in : InPhase p h phase
  pub member : has_phase set phase ≡ true

-- these are the levels of the BR lines that are low
abbrev pub AreAsked : Plan → List Edge → BusLevels → Type 0
AreAsked p h requests = (n : ℕ) → n < 4 → has_bus_level requests n ≡ request_line p h n

-- a segment of a grant chain: the controller's, or that of the slot's board
abbrev pub grant_segment : ℕ → ℕ → Segment
grant_segment c zero = record { chain = grant_chain c; place = None }
grant_segment c (suc s) = record { chain = grant_chain c; place = Some (suc s) }

-- an edge of that segment
abbrev pub IsOfGrant : Edge → ℕ → ℕ → Type 0
IsOfGrant e c zero = (e.driver ≡ Controller) × (e.wire ≡ Bg c)
IsOfGrant e c (suc s) = (e.driver ≡ Slot (suc s)) × (e.wire ≡ BgOut)

-- the rows have places of probed segments alone: a segment without a probe is not among them
abbrev pub HasProbes : Plan → List Pin → List SlotSet → Type 0
HasProbes p pins probed =
    (c s : ℕ) → c < 4 → is_segment p c s ≡ true → pin_on p pins (grant_segment c s) ≡ None
    → is_unseen probed c s ≡ true

-- the set has the phases to which edges of segments without a probe lead from its own
abbrev pub HasUnseen : Version → Plan → BusLevels → List SlotSet → GrantPhases → Type 0
HasUnseen version p requests probed set =
    (q r : GrantPhase) → has_row_for q ≡ true → leads p version requests probed q r ≡ true
    → has_phase set q ≡ true → has_phase set r ≡ true

-- each place of the probed rows is a segment of its chain, which is low exactly if the other row
-- has it
abbrev pub AreShown : Plan → List Edge → List SlotSet → List SlotSet → Type 0
AreShown p h probed low =
    (c s : ℕ) → c < 4 → s < 22 → has (slice_index_or probed c no_slots) s ≡ true
    → (is_segment p c s ≡ true) × (has (slice_index_or low c no_slots) s ≡ is_place_low h c s)
