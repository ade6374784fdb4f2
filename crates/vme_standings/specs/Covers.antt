-- When what is known of the whole bus covers it, by looking back through the list of edges: what
-- the probes see is as it is, and each part may stand as it stands. A list has its newest edge
-- first.
use Rattle.std.specs.Prelude.{◌≡◌, ◌==◌, ◌&&◌, ◌<◌, ℕ, zero, suc, Bool, true, false, Option, Some, None, List, is_some}
use Rattle.std.specs.Option.{option_map_or}
use Rattle.vme_model.specs.declared.sets.ChainId.{ChainId}
use Rattle.vme_model.specs.declared.signals.Cycle.{Cycle}
use Rattle.vme_model.specs.declared.signals.Cycle.TheVariants as cycle
use Rattle.vme_model.specs.declared.signals.Driver.{Driver}
use Rattle.vme_model.specs.declared.signals.Driver.TheVariants.{Controller, Slot}
use Rattle.vme_model.specs.declared.signals.Wire.TheVariants.{AddressStrobe, Dtack}
use Rattle.vme_model.specs.declared.signals.Edge.{Edge}
use Rattle.vme_model.specs.Plan.{Plan}
use Rattle.vme_model.specs.History.{drive, has_strobed, line, segment, shown}
use Rattle.vme_bus.specs.Sets.{has}
use Rattle.vme_captures.specs.declared.levels.Levels.{Levels}
use Rattle.vme_captures.specs.declared.signals.Line.{Line}
use Rattle.vme_captures.specs.declared.signals.Pin.{Pin}
use Rattle.vme_captures.specs.declared.signals.Segment.{Segment}
use Rattle.vme_captures.specs.Changes.{is_line_low}
use Rattle.vme_captures.specs.Levels.{is_line_left_low}
use Rattle.vme_captures.specs.Signals.{is_line}
use Rattle.vme_captures.specs.Wires.{pin_on}
use Rattle.vme_standings.specs.declared.segments.Segments.{Segments}
use Rattle.vme_standings.specs.declared.standings.Drivers.{Drivers}
use Rattle.vme_standings.specs.declared.standings.Shown.{Shown}
use Rattle.vme_standings.specs.declared.standings.Shown.TheVariants as known
use Rattle.vme_standings.specs.declared.standings.Standings.{Standings}
use Rattle.vme_standings.specs.Cycles.{CoversDrivers}
use Rattle.vme_standings.specs.FrontCovers.{CoversFronts}
use Rattle.vme_standings.specs.InPhase.{CoversGrants}
use Rattle.vme_standings.specs.RequestSets.{may_be}
use Rattle.vme_standings.specs.Requests.{CoversRequests}
use Rattle.vme_standings.specs.Segments.{has_segment}

-- the segment of the chain at the place: the controller's, or that of the slot's board
abbrev pub segment_at : ChainId → ℕ → Segment
segment_at c zero = record { chain = c; place = None }
segment_at c (suc s) = record { chain = c; place = Some (suc s) }

-- a probe is on it
abbrev pub is_probed : Plan → List Pin → ChainId → ℕ → Bool
is_probed p pins c s = is_some (pin_on p pins (segment_at c s))

-- it is low
abbrev pub is_segment_low : List Edge → ChainId → ℕ → Bool
is_segment_low h c s = segment h (segment_at c s).chain (segment_at c s).place

-- the set has exactly the segments on which there is a probe
abbrev pub AreProbed : Plan → List Pin → Segments → Type 0
AreProbed p pins set =
    (c : ChainId) (s : ℕ) → s < 22 → has_segment set c s ≡ is_probed p pins c s

-- the shared lines are low that are said to be, and exactly those segments that a probe sees low
pub record AreLevels
    (p : Plan) (pins : List Pin) (h : List Edge) (lines : Levels) (low : Segments)
    : Type 0 where
  pub shared : (l : Line) → is_line l ≡ true → is_line_left_low lines l ≡ is_line_low p h l
  pub probed : (c : ChainId) (s : ℕ)
      → has_segment low c s ≡ (is_probed p pins c s && is_segment_low h c s)

-- what AS* fell with says what is shown; an access of a slot that is not known may be any
abbrev pub says : Cycle → Shown → Bool
says (cycle.Acknowledge m) (known.Acknowledge n) = n == m
says (cycle.Access s) (known.Access (Some t)) = t == s
says (cycle.Access s) (known.Access None) = true
says _ _ = false

-- While AS* is low something is known to be shown, and that is shown, unless the address has gone
-- off since. While AS* is high nothing is.
pub record KnowsShown (p : Plan) (h : List Edge) (known : Option Shown) : Type 0 where
  pub high : line p h AddressStrobe ≡ false → known ≡ None
  pub low : line p h AddressStrobe ≡ true → is_some known ≡ true
  pub shown : (v : Cycle) → line p h AddressStrobe ≡ true → shown p h ≡ Some v
      → option_map_or (says v) known false ≡ true

-- whoever drives AS* has let DS* fall since, or has not
abbrev pub KnowsStrobed : List Edge → Bool → Type 0
KnowsStrobed h strobed =
    (s : ℕ) → drive h (Slot s) AddressStrobe ≡ true → strobed ≡ has_strobed h (Slot s)

-- all that is known covers the bus
pub record Covers (p : Plan) (pins : List Pin) (h : List Edge) (st : Standings) : Type 0 where
  pub levels : AreLevels p pins h st.lines st.low
  pub shown : KnowsShown p h st.shown
  pub strobed : KnowsStrobed h st.strobed
  pub phases : CoversGrants p h st.phases
  pub addressers : CoversDrivers h AddressStrobe st.addressers
  pub answerers : CoversDrivers h Dtack st.answerers
  pub fronts : CoversFronts p h st.fronts
  pub requests : CoversRequests p h (may_be st.requests)

-- the driver is among them
abbrev pub Among : Drivers → Driver → Type 0
Among d Controller = d.controller ≡ true
Among d (Slot s) = has d.boards s ≡ true
