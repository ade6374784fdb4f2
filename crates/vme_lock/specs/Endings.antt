-- What a worker knows while it waits, and why it ended.
use Rattle.std.specs.Prelude.{◌≡◌, ◌≢◌, ℕ, ◌<◌, ◌≤◌, Bool, true, false, [], length, ⊤}
use Rattle.vme_model.specs.declared.signals.Driver.{Driver}
use Rattle.vme_model.specs.Verdict.{State}
use Rattle.vme_model.specs.Counts.{count}
use Rattle.vme_model.specs.Offers.{offered}
use Rattle.vme_lock.specs.declared.workers.Spent.{Spent}
use Rattle.vme_lock.specs.declared.workers.Spent.TheVariants as spent
use Rattle.vme_lock.specs.Seats.{Place}
use Rattle.vme_lock.specs.Holds.{OfSome}

-- with so many edges in the history the driver had no offer
abbrev pub HasNoOffer : State → Driver → ℕ → Type 0
HasNoOffer opened d total = OfSome opened (λ b. (length b.history ≡ total) × (offered b d ≡ []))

-- the history had so many edges, and as many of the seat's driver as the seat made
abbrev pub IsFull : State → ℕ → Place → Type 0
IsFull opened edges s =
    OfSome opened (λ b. (edges ≤ length b.history) × (count b.history s.driver ≡ s.made))

-- the history had another number of edges of the seat's driver
abbrev pub HasLost : State → Place → Type 0
HasLost opened s = OfSome opened (λ b. count b.history s.driver ≢ s.made)

-- Why a worker ended, by what its gate may answer: the gate let it take each of its turns; the gate
-- did not let it take one of them; the history is as long as the bounds allow; or the history is
-- not the seat's. If room was missing, there is nothing to say.
abbrev pub IsSpent : State → (ℕ → Bool → Type 0) → ℕ → ℕ → Place → Spent → Type 0
IsSpent opened answers turns edges s spent.Turns = (t : ℕ) → t < turns → answers t true
IsSpent opened answers turns edges s spent.Gate = (t : ℕ) × (t < turns) × answers t false
IsSpent opened answers turns edges s spent.Edges = IsFull opened edges s
IsSpent opened answers turns edges s spent.NoRoom = ⊤
IsSpent opened answers turns edges s spent.Lost = HasLost opened s

-- what a hold shows about a worker that ended in a turn
abbrev pub IsEnded : State → ℕ → Place → Spent → Type 0
IsEnded opened edges s spent.Edges = IsFull opened edges s
IsEnded opened edges s spent.NoRoom = ⊤
IsEnded opened edges s spent.Lost = HasLost opened s
IsEnded opened edges s _ = ⊥

-- what ends a worker in a turn, seen in a hold or not
abbrev pub EndsIn : State → (ℕ → Bool → Type 0) → ℕ → ℕ → Place → Spent → Type 0
EndsIn opened answers turn edges s spent.Gate = answers turn false
EndsIn opened answers turn edges s spent = IsEnded opened edges s spent
