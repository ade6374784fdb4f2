-- What is known of a bus when a capture begins.
use Rattle.std.specs.Prelude.{◌≡◌, ◌<◌, ◌==◌, ◌&&◌, ℕ, Bool, true, false, None, is_some}
use Rattle.vme_model.specs.declared.sets.ChainId.{ChainId}
use Rattle.vme_model.specs.Plan.{Plan, board}
use Rattle.vme_model.specs.Rules.{is_pri}
use Rattle.vme_bus.specs.declared.sets.SlotSet.{SlotSet}
use Rattle.vme_bus.specs.Sets.{has}
use Rattle.vme_captures.specs.declared.levels.Levels.{Levels}
use Rattle.vme_captures.specs.declared.signals.Line.{Line}
use Rattle.vme_captures.specs.declared.signals.Line.TheVariants as line
use Rattle.vme_captures.specs.Levels.{is_line_left_low}
use Rattle.vme_standings.specs.declared.interrupters.Interrupters.TheVariants.{All}
use Rattle.vme_standings.specs.declared.phases.GrantPhase.{GrantPhase}
use Rattle.vme_standings.specs.declared.phases.GrantPhase.TheVariants.{Idle}
use Rattle.vme_standings.specs.declared.phases.GrantPhases.{GrantPhases}
use Rattle.vme_standings.specs.declared.requests.Requests.{Requests}
use Rattle.vme_standings.specs.declared.segments.Segments.{Segments}
use Rattle.vme_standings.specs.declared.standings.Probed.{Probed}
use Rattle.vme_standings.specs.declared.standings.Standings.{Standings}
use Rattle.vme_standings.specs.Beginnings.{CanBegin}
use Rattle.vme_standings.specs.Fronts.{IsWaiting}
use Rattle.vme_standings.specs.GrantChains.{is_of_level}
use Rattle.vme_standings.specs.Hidden.{AreOnLowLines, AreSharing}
use Rattle.vme_standings.specs.Interrupters.{is_meant_at}
use Rattle.vme_standings.specs.Moving.{asked}
use Rattle.vme_standings.specs.Phases.{HasExactly, HoldsBits, has_bit, has_phase, is_in_table}
use Rattle.vme_standings.specs.RequestSets.{AllHigh, Unknown}
use Rattle.vme_standings.specs.Requests.{is_on_level}
use Rattle.vme_standings.specs.Segments.{has_segment}

-- level 0 was granted last, and nobody holds the bus
abbrev pub is_first : GrantPhase → Bool
is_first (Idle c) = c == 0
is_first _ = false

-- the set holds exactly the boards with an interrupter
abbrev pub AreInterrupters : Plan → SlotSet → Type 0
AreInterrupters p set = (s : ℕ) → has set s ≡ is_meant_at All p s

-- before any edge: all is high, and level 0 counts as granted last
pub record IsPowerUp (p : Plan) (new : Standings) : Type 0 where
  pub lines : (l : Line) → is_line_left_low new.lines l ≡ false
  pub low : (c : ChainId) (place : ℕ) → has_segment new.low c place ≡ false
  pub shown : new.shown ≡ None
  pub strobed : new.strobed ≡ false
  pub phases : HasExactly new.phases is_first
  pub bits : HoldsBits new.phases
  pub addressers : (s : ℕ) → has new.addressers s ≡ false
  pub answerers : (s : ℕ) → has new.answerers s ≡ false
  pub fronts : IsWaiting new.fronts
  pub requests : (boards : SlotSet) × AreInterrupters p boards × AllHigh boards new.requests

-- the BR or IRQ line is low and no board has it
abbrev pub IsUndriven : Plan → Levels → Line → Type 0
IsUndriven p lines (line.Br n) =
    (n < 4) × (is_line_left_low lines (line.Br n) ≡ true) × ((s : ℕ) → is_of_level p n s ≡ false)
IsUndriven p lines (line.Irq n) =
    (0 < n) × (n < 8) × (is_line_left_low lines (line.Irq n) ≡ true)
    × ((s : ℕ) → is_on_level p n s ≡ false)
IsUndriven p lines _ = ⊥

-- no bus that keeps the rules has these levels
pub data CannotRun (p : Plan) (probed : Probed) (lines : Levels) (low : Segments) : Type 0 where
  -- the grants and BBSY* are in no phase
  NoPhase : ((q : GrantPhase) → is_in_table q ≡ true
      → CanBegin p probed.version (asked lines) (is_line_left_low lines line.Bbsy)
      probed.segments.grants low.grants q → ⊥) → CannotRun p probed lines low
  AnsweredTwice : (is_line_left_low lines line.Dtack && is_line_left_low lines line.Berr) ≡ true
      → CannotRun p probed lines low
  Undriven : (l : Line) → IsUndriven p lines l → CannotRun p probed lines low
  NotCleared : is_line_left_low lines line.Bclr ≡ true → is_pri p.arbiter ≡ false
      → CannotRun p probed lines low

-- the phases are those in which the bus can begin
pub record AreBeginnings (p : Plan) (probed : Probed) (lines : Levels) (low : Segments)
    (new : GrantPhases) : Type 0 where
  pub only : (q : GrantPhase) → has_bit q ≡ true → has_phase new q ≡ true
      → CanBegin p probed.version (asked lines) (is_line_left_low lines line.Bbsy)
      probed.segments.grants low.grants q
  pub all : (q : GrantPhase) → is_in_table q ≡ true
      → CanBegin p probed.version (asked lines) (is_line_left_low lines line.Bbsy)
      probed.segments.grants low.grants q
      → has_phase new q ≡ true

-- the interrupt requests of a running bus
pub record AreUnknown (p : Plan) (lines : Levels) (new : Requests) : Type 0 where
  pub boards : SlotSet
  pub low : SlotSet
  pub shared : SlotSet
  pub boards_are : AreInterrupters p boards
  pub low_are : AreOnLowLines p lines low
  pub shared_are : AreSharing p shared
  pub unknown : Unknown boards low shared new

-- a bus can run with these levels, and this is known of it
pub record Runs (p : Plan) (probed : Probed) (lines : Levels) (low : Segments)
    (new : Standings) : Type 0 where
  pub some_phase : (q : GrantPhase) × (has_phase new.phases q ≡ true)
  pub answered : (is_line_left_low lines line.Dtack && is_line_left_low lines line.Berr) ≡ false
  pub driven : (l : Line) → IsUndriven p lines l → ⊥
  pub cleared : is_line_left_low lines line.Bclr ≡ true → is_pri p.arbiter ≡ true
  pub lines_are : new.lines ≡ lines
  pub low_are : new.low ≡ low
  pub shown : new.shown ≡ None
  pub strobed : new.strobed ≡ false
  pub phases : AreBeginnings p probed lines low new.phases
  pub bits_are : HoldsBits new.phases
  pub addressers : (s : ℕ) → has new.addressers s ≡ false
  pub answerers : (s : ℕ) → has new.answerers s
      ≡ (is_line_left_low lines line.Dtack && is_some (board p s))
  pub fronts : IsWaiting new.fronts
  pub requests : AreUnknown p lines new.requests
