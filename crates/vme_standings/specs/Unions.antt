-- What is known of a bus of which one of two is known, part by part: it may stand so if it may by
-- one of the two.
use Rattle.std.specs.Prelude.{◌≡◌, ◌||◌, ℕ, true, is_some}
use Rattle.vme_model.specs.declared.sets.ChainId.{ChainId}
use Rattle.vme_bus.specs.declared.sets.SlotSet.{SlotSet}
use Rattle.vme_bus.specs.Sets.{has}
use Rattle.vme_captures.specs.declared.signals.Line.{Line}
use Rattle.vme_captures.specs.Levels.{is_line_left_low}
use Rattle.vme_standings.specs.declared.fronts.Fronts.{Fronts}
use Rattle.vme_standings.specs.declared.phases.GrantPhases.{GrantPhases}
use Rattle.vme_standings.specs.declared.requests.Request.{Request}
use Rattle.vme_standings.specs.declared.requests.Requests.{Requests}
use Rattle.vme_standings.specs.declared.standings.Standings.{Standings}
use Rattle.vme_standings.specs.Phases.{HasExactly, has_phase}
use Rattle.vme_standings.specs.RequestSets.{may_be}
use Rattle.vme_standings.specs.Segments.{has_segment}

abbrev pub UnitesSlots : SlotSet → SlotSet → SlotSet → Type 0
UnitesSlots a b new = (s : ℕ) → has new s ≡ (has a s || has b s)

abbrev pub UnitesPhases : GrantPhases → GrantPhases → GrantPhases → Type 0
UnitesPhases a b new = HasExactly new (λ q. has_phase a q || has_phase b q)

pub record UnitesFronts (a b new : Fronts) : Type 0 where
  pub waiting : new.waiting ≡ (a.waiting || b.waiting)
  pub ends : UnitesSlots a.ends b.ends new.ends

abbrev pub UnitesRequests : Requests → Requests → Requests → Type 0
UnitesRequests a b new = (s : ℕ) (r : Request) → may_be new s r ≡ (may_be a s r || may_be b s r)

-- of all that is known; what the probes see is as in the first
pub record Unites (a b new : Standings) : Type 0 where
  pub lines : new.lines ≡ a.lines
  pub low : new.low ≡ a.low
  pub shown : new.shown ≡ a.shown
  pub strobed : new.strobed ≡ a.strobed
  pub phases : UnitesPhases a.phases b.phases new.phases
  pub addressers : UnitesSlots a.addressers b.addressers new.addressers
  pub answerers : UnitesSlots a.answerers b.answerers new.answerers
  pub fronts : UnitesFronts a.fronts b.fronts new.fronts
  pub requests : UnitesRequests a.requests b.requests new.requests

-- By both the probes saw the same: the levels, what is shown, and, while AS* is low, whether DS*
-- has fallen.
pub record SeeAlike (a b : Standings) : Type 0 where
  pub lines : (l : Line) → is_line_left_low a.lines l ≡ is_line_left_low b.lines l
  pub low : (c : ChainId) (s : ℕ) → has_segment a.low c s ≡ has_segment b.low c s
  pub shown : a.shown ≡ b.shown
  pub strobed : is_some a.shown ≡ true → a.strobed ≡ b.strobed
