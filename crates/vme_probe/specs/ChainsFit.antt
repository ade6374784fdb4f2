-- What is known of BBSY* and of the daisy chains fits together with what the probes see of them.
use Rattle.std.specs.Prelude.{◌≡◌, ◌<◌, ◌&&◌, ◌||◌, not, ℕ, Bool, true, false, Option, Some, None, is_some, nat_lt, unwrap_or}
use Rattle.vme_model.specs.declared.sets.ChainId.{ChainId}
use Rattle.vme_model.specs.declared.sets.ChainId.TheVariants.{Iack}
use Rattle.vme_model.specs.Plan.{Plan}
use Rattle.vme_model.specs.Signals.{is_two}
use Rattle.vme_bus.specs.Sets.{has}
use Rattle.vme_captures.specs.declared.signals.Change.{Change}
use Rattle.vme_captures.specs.declared.signals.Line.TheVariants as line
use Rattle.vme_captures.specs.declared.signals.Signal.{Signal}
use Rattle.vme_captures.specs.declared.signals.Signal.TheVariants as signal
use Rattle.vme_captures.specs.Wires.{wire_of}
use Rattle.vme_standings.specs.declared.fronts.Fronts.{Fronts}
use Rattle.vme_standings.specs.declared.phases.GrantPhase.{GrantPhase}
use Rattle.vme_standings.specs.declared.phases.GrantPhase.TheVariants.{Expired}
use Rattle.vme_standings.specs.declared.standings.Probed.{Probed}
use Rattle.vme_standings.specs.declared.standings.Standings.{Standings}
use Rattle.vme_standings.specs.Beginnings.{ShowsChain}
use Rattle.vme_standings.specs.Driving.{is_left_low}
use Rattle.vme_standings.specs.InPhase.{is_named}
use Rattle.vme_standings.specs.Phases.{has_phase, is_held, is_in_table}
use Rattle.vme_standings.specs.Requests.{is_interrupter}
use Rattle.vme_standings.specs.Segments.{has_segment}
use Rattle.vme_standings.specs.Slots.{EachSlot}
use Rattle.vme_probe.specs.Demands.{is_chain_low}
use Rattle.vme_probe.specs.Hindered.{FitsTogether}

-- ---- a change that a probe sees

-- a line, or a pin whose wire has a probe
abbrev pub is_probed : Plan → Probed → Signal → Bool
is_probed p probed (signal.Line l) = true
is_probed p probed (signal.Pin q) =
    has_segment probed.segments q.chain (unwrap_or (wire_of p q).place 0)

-- the line, or the wire of the pin, is low
abbrev pub is_signal_low : Plan → Standings → Signal → Bool
is_signal_low p st (signal.Line l) = is_left_low st l
is_signal_low p st (signal.Pin q) =
    has_segment st.low q.chain (unwrap_or (wire_of p q).place 0)

-- The change is that of a line, or of a probed pin, and it changes the level.
pub record IsSeen (p : Plan) (probed : Probed) (st : Standings) (c : Change) : Type 0 where
  pub probed_is : is_probed p probed c.signal ≡ true
  pub differs : is_signal_low p st c.signal ≡ not c.fall

-- ---- the grants and BBSY*

-- nobody took the grant
abbrev pub is_expired : GrantPhase → Bool
is_expired (Expired c first) = true
is_expired _ = false

-- The phase is one of this backplane, BBSY* is low exactly while a board holds the bus, and each
-- probed segment of the grant chains is low exactly if it is low in the phase.
pub record AgreesWithProbes (p : Plan) (probed : Probed) (st : Standings)
    (q : GrantPhase) : Type 0 where
  pub near : is_in_table q ≡ true
  pub named : is_named p q ≡ true
  pub two : is_expired q ≡ true → is_two probed.version ≡ true
  pub bbsy : is_held q ≡ is_left_low st line.Bbsy
  pub shown : (c : ℕ) → c < 4 → ShowsChain p probed.segments.grants st.low.grants c q

-- There is a phase, and each agrees with the probes.
pub record GrantsFit (p : Plan) (probed : Probed) (st : Standings) : Type 0 where
  pub some : (q : GrantPhase) × (has_phase st.phases q ≡ true)
  pub each : (q : GrantPhase) → has_phase st.phases q ≡ true → AgreesWithProbes p probed st q

-- ---- the acknowledge chain

-- the low segments may end there; with None there are none
abbrev pub may_end_at : Fronts → Option ℕ → Bool
may_end_at f None = f.waiting
may_end_at f (Some end) = nat_lt end 22 && has f.ends end

-- A probed segment is the controller's, or that of a board with an interrupter.
abbrev pub AreOnWires : Plan → Probed → Type 0
AreOnWires p probed =
    EachSlot (λ s. has probed.segments.acknowledge s ≡ true → is_interrupter p s ≡ true)

-- A cycle is shown only while AS* is low. While one is shown, there is an end of the low segments
-- of the acknowledge chain, and for each of them a probed segment is low exactly up to there.
pub record AcknowledgeFits (p : Plan) (probed : Probed) (st : Standings) : Type 0 where
  pub wires : AreOnWires p probed
  pub cycle : is_some st.shown ≡ true → is_left_low st line.AddressStrobe ≡ true
  pub some : is_some st.shown ≡ true
      → (front : Option ℕ) × (may_end_at st.fronts front ≡ true)
  pub each : is_some st.shown ≡ true → (front : Option ℕ) → may_end_at st.fronts front ≡ true
      → (s : ℕ) → s < 22 → has probed.segments.acknowledge s ≡ true
      → is_chain_low front s ≡ has st.low.acknowledge s

-- all three
pub record AllFits (p : Plan) (probed : Probed) (st : Standings) : Type 0 where
  pub cycle : FitsTogether p st
  pub grants : GrantsFit p probed st
  pub acknowledge : AcknowledgeFits p probed st

-- ---- which changes

-- the bus grant chains
abbrev pub is_grant_chain : ChainId → Bool
is_grant_chain Iack = false
is_grant_chain _ = true

-- a pin of one of them
abbrev pub is_of_grants : Signal → Bool
is_of_grants (signal.Line l) = false
is_of_grants (signal.Pin q) = is_grant_chain q.chain

-- a pin of the acknowledge chain
abbrev pub is_of_acknowledge : Signal → Bool
is_of_acknowledge (signal.Line l) = false
is_of_acknowledge (signal.Pin q) = not (is_grant_chain q.chain)
