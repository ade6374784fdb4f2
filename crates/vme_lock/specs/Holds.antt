-- What one hold of the lock answers.
use Rattle.std.specs.Prelude.{◌≡◌, ◌==◌, ◌%◌, ℕ, Bool, true, not, if◌then◌else◌, length, slice_get, Option, Result, Ok, Err}
use Rattle.vme_model.specs.declared.signals.Driver.{Driver}
use Rattle.vme_model.specs.declared.signals.Edge.{Edge}
use Rattle.vme_model.specs.declared.deliveries.Delivery.{Delivery}
use Rattle.vme_model.specs.declared.refusals.Refused.{Refused}
use Rattle.vme_model.specs.Signals.{is_same_driver}
use Rattle.vme_model.specs.Verdict.{State, IsLegal}
use Rattle.vme_model.specs.Deliveries.{answer}
use Rattle.vme_model.specs.Counts.{count}
use Rattle.vme_model.specs.Offers.{offered}
use Rattle.vme_model.specs.Views.{pins}
use Rattle.vme_lock.specs.declared.views.View.{View}
use Rattle.vme_lock.specs.declared.views.Turn.{Turn}
use Rattle.vme_lock.specs.declared.views.Lost.{Lost}
use Rattle.vme_lock.specs.declared.views.EdgeRefused.{EdgeRefused}
use Rattle.vme_lock.specs.declared.views.EdgeRefused.TheVariants as refused
use Rattle.vme_lock.specs.declared.workers.Spent.{Spent}
use Rattle.vme_lock.specs.declared.workers.Spent.TheVariants as spent
use Rattle.vme_lock.specs.Seats.{Place, Follows}

-- what a look at the backplane shows a driver
abbrev pub view_of : State → Driver → View
view_of b d = record {
  pins = pins b.plan b.history d;
  offers = record { items = offered b d };
  own = count b.history d;
  total = length b.history;
}

-- the history has another number of the driver's edges than its seat made
abbrev pub is_lost : State → Place → Bool
is_lost b s = not (count b.history s.driver == s.made)

-- L5, with the driver's number of edges
abbrev pub loss_of : State → Place → Lost
loss_of b s = record { own = count b.history s.driver }

-- the answer to a look
abbrev pub look_answer : State → Place → Result View Lost
look_answer b s = if is_lost b s then Err (loss_of b s) else Ok (view_of b s.driver)

-- what a turn shows a driver: the offer at the place of the turn among all
abbrev pub turn_of : State → Driver → ℕ → Turn
turn_of b d t = record {
  offer = slice_get (offered b d) (t % length (offered b d));
  total = length b.history;
}

-- the answer to a turn
abbrev pub turn_answer : State → Place → ℕ → Result Turn Lost
turn_answer b s t = if is_lost b s then Err (loss_of b s) else Ok (turn_of b s.driver t)

-- what a worker makes of the answer to a turn: if it is L5, the worker ends as lost
abbrev pub ending : Result Turn Lost → Result Turn Spent
ending (Ok t) = Ok t
ending (Err _) = Err spent.Lost

-- what the backplane answers, with its refusal as a refusal of an edge
abbrev pub by_step : Result (Option Delivery) Refused → Result (Option Delivery) EdgeRefused
by_step (Ok delivered) = Ok delivered
by_step (Err r) = Err (refused.Step r)

-- the edge is the seat's, which made all edges of its driver
pub record IsOwn (b : State) (s : Place) (e : Edge) : Type 0 where
  pub driver : is_same_driver e.driver s.driver ≡ true
  pub made : count b.history s.driver ≡ s.made

-- the answer to an edge: L1, L5, or what the backplane answers
abbrev pub edge_answer : State → Place → Edge → Result (Option Delivery) EdgeRefused
edge_answer b s e =
    if not (is_same_driver e.driver s.driver) then Err refused.NotYours
    else if is_lost b s then Err (refused.Lost (loss_of b s))
    else by_step (answer b e)

-- it holds for some backplane with a legal history that began as the one that was opened
abbrev pub OfSome : State → (State → Type 0) → Type 0
OfSome opened P = (b : State) × Follows opened b × IsLegal b.version b.plan b.history × P b
