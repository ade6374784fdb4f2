-- The wiring to which a history leads.
use Rattle.std.specs.Prelude.{◌≡◌, ◌<◌, ℕ, true, List, Some, Ok, length, option_map}
use Rattle.vme_model.specs.declared.boards.Row.{Row}
use Rattle.vme_model.specs.declared.signals.Driver.TheVariants.{Controller}
use Rattle.vme_model.specs.declared.signals.Version.{Version}
use Rattle.vme_model.specs.declared.signals.Edge.{Edge}
use Rattle.vme_model.specs.Plan.{Plan, board}
use Rattle.vme_model.specs.Accepted.{IsAccepted}
use Rattle.vme_model.specs.History.{addressing}
use Rattle.vme_model.specs.Verdict.{IsLegal, verdict_but_full}
use Rattle.vme_model.specs.Views.{pins}
use Rattle.vme_arbiter.specs.Local.{controller_of}
use Rattle.vme_wiring.specs.Boards.{parts_of, place}
use Rattle.vme_wiring.specs.Counts.{IsLines, is_movable, count_of}
use Rattle.vme_histories.specs.Levels.{request_level, interrupt_level}
use Rattle.vme_wiring.specs.Chained.{chains_of, CanMove}
use Rattle.vme_wiring.specs.declared.boards.Board.{Board}
use Rattle.vme_wiring.specs.declared.wirings.Wiring.{Wiring}

-- each stored field is its reading of a legal history of an accepted plan
pub record IsWiringOf (version : Version) (p : Plan) (h : List Edge) (w : Wiring) : Type 0 where
  pub accepted : IsAccepted p
  pub legal : IsLegal version p h
  pub rules : w.version ≡ version
  pub slots : w.slots ≡ p.slots
  pub room : length w.boards ≡ 22
  pub boards : (s : ℕ) → place w.boards s ≡ option_map (parts_of version p h) (board p s)
  pub arbiter : w.arbiter ≡ (record { kind = p.arbiter }, controller_of p.arbiter version h)
  pub lines : IsLines p h w.lines
  pub chains : w.chains ≡ chains_of p h
  -- the controller's pins are the lines that all boards share
  pub shared : w.shared ≡ pins p h Controller
  pub addressing : w.addressing ≡ addressing p h

-- what holds for each history that leads to a wiring
abbrev pub OfHistory : Wiring → (Version → Plan → List Edge → Type 0) → Type 0
OfHistory w P =
    (version : Version) (p : Plan) (h : List Edge) → IsWiringOf version p h w → P version p h

-- what holds for each history that leads to a wiring, and for each slot whose place has the board
abbrev pub OfPlaced : Wiring → Board → (Version → Plan → List Edge → ℕ → Type 0) → Type 0
OfPlaced w b P =
    (version : Version) (p : Plan) (h : List Edge) (s : ℕ)
    → IsWiringOf version p h w → Some b ≡ place w.boards s → P version p h s

-- some history leads to the wiring, and after it the rules allow the edge
pub record CanTake (w : Wiring) (e : Edge) : Type 0 where
  pub version : Version
  pub plan : Plan
  pub history : List Edge
  pub is_wiring : IsWiringOf version plan history w
  pub allowed : verdict_but_full version plan history e ≡ Ok tt

-- the levels of a board are in range, and the line and the segment that its edge moves are in the
-- other state
pub record CanNote (w : Wiring) (r : Row) (e : Edge) : Type 0 where
  pub request_level : request_level r < 4
  pub interrupt_level : interrupt_level r < 8
  pub line : is_movable (count_of w.lines r e.wire) e.fall ≡ true
  pub chain : CanMove r e.wire e.fall w.chains
