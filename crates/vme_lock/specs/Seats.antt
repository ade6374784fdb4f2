-- What seats and the locked value are to a contract.
use Rattle.std.specs.Prelude.{◌≡◌, ◌≤◌, ℕ, ◌+◌, Bool, true, List, [], ◌∷◌, ◌++◌, length, map, slice_index, slice_set}
use Rattle.vme_model.specs.declared.boards.ArbiterKind.TheVariants.{Sgl}
use Rattle.vme_model.specs.declared.signals.Driver.{Driver}
use Rattle.vme_model.specs.declared.signals.Driver.TheVariants.{Controller, Slot}
use Rattle.vme_model.specs.declared.signals.Edge.{Edge}
use Rattle.vme_model.specs.declared.signals.Version.TheVariants.{One}
use Rattle.vme_model.specs.Signals.{is_slot}
use Rattle.vme_model.specs.Plan.{drivers}
use Rattle.vme_model.specs.Verdict.{State, made}
use Rattle.vme_model.specs.Counts.{count}

-- a seat: whose edges it makes, and how many it made
pub record Place : Type 0 where
  pub driver : Driver
  pub made : ℕ

-- the seat of a driver, with the number of its edges in a backplane
abbrev pub seat_of : State → Driver → Place
seat_of b d = record { driver = d; made = count b.history d }

-- the controller's seat, then each board's by slot
abbrev pub seats_of : State → List Place
seats_of b = map (seat_of b) (drivers b.plan)

abbrev pub drivers_of : List Place → List Driver
drivers_of seats = map (λ s. s.driver) seats

-- the seat after one more edge
abbrev pub one_more : Place → Place
one_more s = record { driver = s.driver; made = s.made + 1 }

-- the seat after the edges of a log
abbrev pub seat_after : Place → List Edge → Place
seat_after s log = record { driver = s.driver; made = s.made + length log }

-- each seat made the edges of its log
abbrev pub AllWorked : List Place → List Place → List (List Edge) → Type 0
AllWorked [] [] [] = Unit {0}
AllWorked (s ∷ seats) (t ∷ after) (log ∷ logs) = (t ≡ seat_after s log) × AllWorked seats after logs
AllWorked _ _ _ = ⊥

-- no more edges than turns, and no more than the history may have
abbrev pub IsWithin : ℕ → ℕ → List Edge → Type 0
IsWithin turns edges log = (length log ≤ turns) × (length log ≤ edges)

-- a driver that some plan has
abbrev pub can_sit : Driver → Bool
can_sit Controller = true
can_sit (Slot s) = is_slot s

-- the place at which a driver's count stands: first the controller's, then each slot's
abbrev pub desk : Driver → ℕ
desk Controller = 0
desk (Slot s) = s

-- each driver's number of edges stands at its desk
pub record AreCounts (counts : List ℕ) (h : List Edge) : Type 0 where
  pub wide : length counts ≡ 22
  pub counted : (d : Driver) → can_sit d ≡ true → slice_index counts (desk d) ≡ count h d

abbrev pub counted_more : List ℕ → Driver → List ℕ
counted_more counts d = slice_set counts (desk d) (slice_index counts (desk d) + 1)

-- what lies under the lock: the backplane, each driver's number of edges, and the total of the book
pub record Keeping : Type 0 where
  pub board : State
  pub counts : List ℕ
  pub total : ℕ

-- the locked value with one more edge, made by the driver
abbrev pub kept_more : Keeping → Edge → Driver → Keeping
kept_more k e d = record {
  board = made k.board e;
  counts = counted_more k.counts d;
  total = k.total + 1;
}

-- the backplane began as the one that was opened: edges were made since, and nothing else
abbrev pub Follows : State → State → Type 0
Follows opened b = (newer : List Edge) × (b ≡ record opened { history = newer ++ opened.history })

-- the lock of a backplane that was opened keeps this
pub record IsHeld (opened : State) (k : Keeping) : Type 0 where
  pub follows : Follows opened k.board
  pub counts : AreCounts k.counts k.board.history
  pub booked : k.total ≡ length k.board.history

-- a backplane that no program locks
abbrev pub nowhere : State
nowhere = record {
  version = One;
  plan = record { slots = 0; rows = []; jumpers = []; arbiter = Sgl };
  history = [];
  max = 0;
}
