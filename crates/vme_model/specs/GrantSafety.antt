-- What is safe about the grants and the bus. (The claims are this project's own; the words for
-- wires and chains are those of chapter 3.)
use Rattle.std.specs.Prelude.{◌≡◌, ◌≤◌, ◌<◌, ◌&&◌, ◌||◌, ◌⊎◌, ℕ, Bool, true, false, not, if◌then◌else◌, Option, Some, None, List, [], ◌∷◌, nat_lt, filter, reverse, map}
use Rattle.std.specs.List.{Contains}
use Rattle.std.specs.Option.{option_map_or}
use Rattle.vme_model.specs.declared.sets.ChainId.{ChainId}
use Rattle.vme_model.specs.declared.signals.Version.{Version}
use Rattle.vme_model.specs.declared.signals.Driver.{Driver}
use Rattle.vme_model.specs.declared.signals.Driver.TheVariants.{Slot}
use Rattle.vme_model.specs.declared.signals.Wire.{Wire}
use Rattle.vme_model.specs.declared.signals.Wire.TheVariants.{Br, BgOut, Bbsy}
use Rattle.vme_model.specs.declared.signals.Edge.{Edge}
use Rattle.vme_model.specs.Signals.{is_two, is_same_wire, is_edge_of, is_fall_of, is_grant, grant_level}
use Rattle.vme_model.specs.Plan.{Plan, active, board_of, grant_chain, requests_on}
use Rattle.vme_model.specs.History.{drive, line, segment, input, is_past_end}

-- a grant of level n stands at slot s, which has neither passed it on nor taken it
pub record Travels (p : Plan) (h : List Edge) (n s : ℕ) : Type 0 where
  pub level : n < 4
  pub member : Contains (active p (grant_chain n)) s
  pub granted : input p h (grant_chain n) s ≡ true
  pub unpassed : drive h (Slot s) BgOut ≡ false
  pub untaken : drive h (Slot s) Bbsy ≡ false

-- slot s holds the bus
abbrev pub Holds : List Edge → ℕ → Type 0
Holds h s = drive h (Slot s) Bbsy ≡ true

-- at most one grant travels
abbrev pub OneTravels : Plan → List Edge → Type 0
OneTravels p h = (m n s t : ℕ) → Travels p h m s → Travels p h n t → (m ≡ n) × (s ≡ t)

-- no grant travels while BBSY* is low
abbrev pub NoneTravelsWhileBusy : Plan → List Edge → Type 0
NoneTravelsWhileBusy p h = (n s : ℕ) → line p h Bbsy ≡ true → Travels p h n s → ⊥

-- at most one slot holds the bus
abbrev pub OneHolds : List Edge → Type 0
OneHolds h = (s t : ℕ) → Holds h s → Holds h t → s ≡ t

-- a fall of such a wire, whoever makes it
abbrev pub is_fall_on : Wire → Edge → Bool
is_fall_on w e = e.fall && is_same_wire e.wire w

-- slot s takes the bus
abbrev pub takes_bus : ℕ → Edge → Bool
takes_bus s e = is_fall_of (Slot s) Bbsy e

-- slot s releases it
abbrev pub releases_bus : ℕ → Edge → Bool
releases_bus s e = not e.fall && is_edge_of (Slot s) Bbsy e

-- a board passes a grant on
abbrev pub passes_grant : Edge → Bool
passes_grant e = is_fall_on BgOut e

-- the level of the last grant, if there is one
abbrev pub last_granted : List Edge → Option ℕ
last_granted [] = None
last_granted (e ∷ h) = if is_grant e then Some (grant_level e.wire) else last_granted h

-- the bus was taken since the last grant
abbrev pub was_taken : List Edge → Bool
was_taken [] = false
was_taken (e ∷ h) = if is_grant e then false else (is_fall_on Bbsy e || was_taken h)

-- the boards that passed a grant on since the last one was made, the newest first, each with the
-- state of its own `br` just before
abbrev pub grant_passes : List Edge → List (Driver × Bool)
grant_passes [] = []
grant_passes (e ∷ h) =
    if is_grant e then []
    else (if passes_grant e then (e.driver, drive h e.driver Br) ∷ grant_passes h
    else grant_passes h)

-- the slots of a chain below slot k, the greatest first
abbrev pub slots_below : Plan → ChainId → ℕ → List ℕ
slots_below p c k = reverse (filter (λ t. nat_lt t k) (active p c))

-- Slot k may take the bus after a history: the last grant is of its level and nobody took it; the
-- slots of the chain below k passed it on, once each, in ascending order, with no request of their
-- own, and nobody else did; and k requests. (It follows that nobody at or above k passed it on.)
pub record IsRightfulTake (p : Plan) (h : List Edge) (k : ℕ) : Type 0 where
  pub level : ℕ
  pub in_range : level < 4
  pub member : Contains (active p (grant_chain level)) k
  pub granted : last_granted h ≡ Some level
  pub untaken : was_taken h ≡ false
  pub passed : grant_passes h ≡ map (λ t. (Slot t, false)) (slots_below p (grant_chain level) k)
  pub requests : drive h (Slot k) Br ≡ true

-- an edge by which a slot takes the bus is a rightful take
abbrev pub TakesRightfully : Plan → List Edge → Edge → Type 0
TakesRightfully p h e = (k : ℕ) → takes_bus k e ≡ true → IsRightfulTake p h k

-- a segment of the grant chain of level n: the controller's, or that of a slot that works it
abbrev pub IsSegment : Plan → ℕ → Option ℕ → Type 0
IsSegment p n None = n < 4
IsSegment p n (Some s) = (n < 4) × Contains (active p (grant_chain n)) s

-- that segment is low
pub record IsLow (p : Plan) (h : List Edge) (n : ℕ) (place : Option ℕ) : Type 0 where
  pub part : IsSegment p n place
  pub low : segment h (grant_chain n) place ≡ true

-- one segment stands before another
abbrev pub IsBefore : Option ℕ → Option ℕ → Type 0
IsBefore None None = ⊥
IsBefore None (Some t) = Unit {0}
IsBefore (Some s) None = ⊥
IsBefore (Some s) (Some t) = s < t

-- the low segments of all four grant chains are of one chain
abbrev pub OneChainLow : Plan → List Edge → Type 0
OneChainLow p h = (m n : ℕ) (a b : Option ℕ) → IsLow p h m a → IsLow p h n b → m ≡ n

-- no high segment stands between two low ones
abbrev pub NoGap : Plan → List Edge → Type 0
NoGap p h =
    (n : ℕ) (a b c : Option ℕ) → IsBefore a b → IsBefore b c → IsSegment p n b
    → IsLow p h n a → IsLow p h n c → IsLow p h n b

-- the last segment of the chain of level n is low
abbrev pub IsEndLow : Plan → List Edge → ℕ → Type 0
IsEndLow p h n = is_past_end p h (grant_chain n) ≡ true

-- while BBSY* is high, the low segments begin with the controller's; in the second version they may
-- end with the last one instead
abbrev pub BeginsAtController : Version → Plan → List Edge → Type 0
BeginsAtController version p h =
    (n : ℕ) (a : Option ℕ) → line p h Bbsy ≡ false → IsLow p h n a
    → IsLow p h n None ⊎ ((is_two version ≡ true) × IsEndLow p h n)

-- the bus is released only if no segment is low
abbrev pub ReleasesAfterGrants : Plan → List Edge → Edge → Type 0
ReleasesAfterGrants p h e = (k n : ℕ) (a : Option ℕ) → releases_bus k e ≡ true → IsLow p h n a → ⊥

-- a board of level n withdraws its request: it lets go of its `br` and does not hold the bus
abbrev pub withdraws : Plan → List Edge → ℕ → Edge → Bool
withdraws p h n e =
    not e.fall && is_same_wire e.wire Br
    && not (drive h e.driver Bbsy)
    && option_map_or (requests_on n) (board_of p e.driver) false

-- a board of level n withdrew its request since the last grant
abbrev pub was_withdrawn : Plan → List Edge → ℕ → Bool
was_withdrawn p [] n = false
was_withdrawn p (e ∷ h) n = if is_grant e then false else (withdraws p h n e || was_withdrawn p h n)

-- a grant of level n travels to a board that waits for it: it stands at slot s, and `br` is low at
-- s or a slot above it
pub record IsAwaited (p : Plan) (h : List Edge) (n : ℕ) : Type 0 where
  pub slot : ℕ
  pub waiter : ℕ
  pub travels : Travels p h n slot
  pub above : slot ≤ waiter
  pub member : Contains (active p (grant_chain n)) waiter
  pub waits : drive h (Slot waiter) Br ≡ true

-- No grant is lost: while a controller's grant is low and BBSY* is high, it travels to a board that
-- waits for it; in the second version a board of the chain may have withdrawn its request instead.
-- (That one grant alone travels is OneTravels.)
abbrev pub NoneLost : Version → Plan → List Edge → Type 0
NoneLost version p h =
    (n : ℕ) → line p h Bbsy ≡ false → IsLow p h n None
    → IsAwaited p h n ⊎ ((is_two version ≡ true) × (was_withdrawn p h n ≡ true))

-- in every case the grant still travels, or it has passed the last board of its chain
abbrev pub TravelsOrEnds : Plan → List Edge → Type 0
TravelsOrEnds p h =
    (n : ℕ) → line p h Bbsy ≡ false → IsLow p h n None
    → ((s : ℕ) × Travels p h n s) ⊎ IsEndLow p h n
