-- What is safe about the address lines and the answers. (The claims are this project's own; the
-- words are those of chapters 2 and 4.)
use Rattle.std.specs.Prelude.{◌≡◌, ◌≤◌, ◌+◌, ◌&&◌, ◌||◌, ℕ, Bool, true, false, not, if◌then◌else◌, Option, Some, None, List, [], ◌∷◌, map}
use Rattle.std.specs.List.{Contains}
use Rattle.std.specs.Option.{option_map_or, option_and_then}
use Rattle.vme_model.specs.declared.boards.IrqKind.{IrqKind}
use Rattle.vme_model.specs.declared.boards.IrqKind.TheVariants.{Roak, Rora}
use Rattle.vme_model.specs.declared.sets.ChainId.TheVariants as chain
use Rattle.vme_model.specs.declared.signals.Driver.{Driver}
use Rattle.vme_model.specs.declared.signals.Driver.TheVariants.{Controller, Slot}
use Rattle.vme_model.specs.declared.signals.Wire.TheVariants.{Iack, Berr, Bbsy, Addr, AddressStrobe, Irq, IackOut, Dtack}
use Rattle.vme_model.specs.declared.signals.Cycle.{Cycle}
use Rattle.vme_model.specs.declared.signals.Cycle.TheVariants.{Acknowledge}
use Rattle.vme_model.specs.declared.signals.Edge.{Edge}
use Rattle.vme_model.specs.Signals.{is_edge_of, is_fall_of, is_acknowledge}
use Rattle.vme_model.specs.Plan.{Plan, board, active}
use Rattle.vme_model.specs.History.{drive, shown}
use Rattle.vme_model.specs.Readings.{readings, is_pending, pending}
use Rattle.vme_model.specs.GrantSafety.{is_fall_on, slots_below}

-- slot s drives the address lines
abbrev pub Addresses : List Edge → ℕ → Type 0
Addresses h s = drive h (Slot s) Addr ≡ true

-- at most one slot drives the address lines
abbrev pub OneAddresses : List Edge → Type 0
OneAddresses h = (s t : ℕ) → Addresses h s → Addresses h t → s ≡ t

-- if a slot drives the address lines and does not hold the bus, its AS* is low
abbrev pub KeepsItsAddress : List Edge → Type 0
KeepsItsAddress h =
    (s : ℕ) → Addresses h s → drive h (Slot s) Bbsy ≡ false → drive h (Slot s) AddressStrobe ≡ true

-- a driver ends the cycle: a slot by its DTACK*, the controller by BERR*
abbrev pub Answers : List Edge → Driver → Type 0
Answers h Controller = drive h Controller Berr ≡ true
Answers h (Slot s) = drive h (Slot s) Dtack ≡ true

-- no cycle has two answers
abbrev pub OneAnswers : List Edge → Type 0
OneAnswers h = (a b : Driver) → Answers h a → Answers h b → a ≡ b

-- slot s answers
abbrev pub answers : ℕ → Edge → Bool
answers s e = is_fall_of (Slot s) Dtack e

-- slot s lets go of its interrupt request
abbrev pub releases_request : ℕ → Edge → Bool
releases_request s e = not e.fall && is_edge_of (Slot s) Irq e

-- the controller begins the acknowledge chain (chapter 4)
abbrev pub begins_acknowledge : Edge → Bool
begins_acknowledge e = is_fall_on Iack e

-- a board passes the acknowledge on (chapter 4)
abbrev pub passes_acknowledge : Edge → Bool
passes_acknowledge e = is_fall_on IackOut e

-- what was shown when the acknowledge chain last began, if it did
abbrev pub last_acknowledged : Plan → List Edge → Option Cycle
last_acknowledged p [] = None
last_acknowledged p (e ∷ h) = if begins_acknowledge e then shown p h else last_acknowledged p h

-- since the acknowledge chain last began, a board answered while an acknowledge was shown
abbrev pub was_acknowledged : Plan → List Edge → Bool
was_acknowledged p [] = false
was_acknowledged p (e ∷ h) =
    if begins_acknowledge e then false
    else ((is_fall_on Dtack e && is_acknowledge (shown p h)) || was_acknowledged p h)

-- an acknowledge is shown, and the driver's board is pending at its level
abbrev pub is_pending_at : Plan → List Edge → Driver → Option Cycle → Bool
is_pending_at p h d (Some (Acknowledge level)) = is_pending (readings p h d) level
is_pending_at p h d _ = false

-- the boards that passed the acknowledge on since it began, the newest first, each with what was
-- shown just before, and whether it was pending at that level
abbrev pub acknowledge_passes : Plan → List Edge → List (Driver × Option Cycle × Bool)
acknowledge_passes p [] = []
acknowledge_passes p (e ∷ h) =
    if begins_acknowledge e then []
    else (if passes_acknowledge e
    then (e.driver, shown p h, is_pending_at p h e.driver (shown p h)) ∷ acknowledge_passes p h
    else acknowledge_passes p h)

-- Slot k may answer an acknowledge of the level after a history: the chain last began with that
-- acknowledge, and nobody answered since; the slots of the chain below k passed it on, once each,
-- in ascending order, while it was shown and with no request at its level, and nobody else did; and
-- k is pending at it. (It follows that nobody at or above k passed it on.)
pub record IsRightfulAnswer (p : Plan) (h : List Edge) (k level : ℕ) : Type 0 where
  pub member : Contains (active p chain.Iack) k
  pub began : last_acknowledged p h ≡ Some (Acknowledge level)
  pub unanswered : was_acknowledged p h ≡ false
  pub passed : acknowledge_passes p h ≡
      map (λ t. (Slot t, Some (Acknowledge level), false)) (slots_below p chain.Iack k)
  pub requests : pending p h k level ≡ true

-- an edge by which a slot answers an acknowledge is a rightful answer
abbrev pub AnswersRightfully : Plan → List Edge → Edge → Type 0
AnswersRightfully p h e =
    (k level : ℕ) → answers k e ≡ true → shown p h ≡ Some (Acknowledge level)
    → IsRightfulAnswer p h k level

-- an acknowledge makes the interrupter let its request go (chapter 4)
abbrev pub is_roak : IrqKind → Bool
is_roak Roak = true
is_roak Rora = false

-- the slot has an interrupter that lets its request go at an acknowledge
abbrev pub has_roak : Plan → ℕ → Bool
has_roak p s =
    option_map_or (λ i. is_roak i.kind) (option_and_then (λ r. r.interrupter) (board p s)) false

-- how often the slot answered while an acknowledge was shown, since its last `irq-`
abbrev pub answers_since_request : Plan → List Edge → ℕ → ℕ
answers_since_request p [] s = 0
answers_since_request p (e ∷ h) s =
    if is_fall_of (Slot s) Irq e then 0
    else (if answers s e && is_acknowledge (shown p h) then 1 else 0) + answers_since_request p h s

-- a ROAK slot answers at most once for a request
abbrev pub AnswersOnce : Plan → List Edge → Type 0
AnswersOnce p h = (s : ℕ) → has_roak p s ≡ true → answers_since_request p h s ≤ 1

-- a ROAK slot answers exactly once before it lets its request go
abbrev pub ReleasesAnswered : Plan → List Edge → Edge → Type 0
ReleasesAnswered p h e =
    (k : ℕ) → releases_request k e ≡ true → has_roak p k ≡ true → answers_since_request p h k ≡ 1
