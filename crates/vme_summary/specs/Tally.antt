-- What a trace exercised: counts, found by looking back through its edges with their answers. (The
-- requests, tenures, cycles and answers of a board are those of chapters 2 to 4; what is counted is
-- this project's profile.)
use Rattle.std.specs.Prelude.{◌==◌, ◌&&◌, ◌||◌, ◌-◌, ◌++◌, ℕ, max, Bool, true, false, not, if◌then◌else◌, Option, Some, None, Result, Ok, Err, List, [], ◌∷◌, length, count_by, is_ok, sum}
use Rattle.std.specs.Option.{option_or}
use Rattle.vme_model.specs.declared.deliveries.Delivery.{Delivery}
use Rattle.vme_model.specs.declared.refusals.Refused.{Refused}
use Rattle.vme_model.specs.declared.refusals.Refused.TheVariants.{NoSuchDriver, AlreadyThere, Rule, NotSettled, TraceFull}
use Rattle.vme_model.specs.declared.signals.Driver.{Driver}
use Rattle.vme_model.specs.declared.signals.Driver.TheVariants.{Slot}
use Rattle.vme_model.specs.declared.signals.Wire.{Wire}
use Rattle.vme_model.specs.declared.signals.Wire.TheVariants.{Br, Bbsy, AddressStrobe, Dtack}
use Rattle.vme_model.specs.declared.signals.Edge.{Edge}
use Rattle.vme_model.specs.Signals.{is_edge_of, is_fall_of}
use Rattle.vme_model.specs.Readings.{readings}
use Rattle.vme_model.specs.Rules.{rule}
use Rattle.vme_model.specs.Verdict.{State, after}
use Rattle.vme_model.specs.Deliveries.{answer}
use Rattle.vme_goals.specs.declared.events.Event.{Event}
use Rattle.vme_events.specs.Events.{comes}
use Rattle.vme_summary.specs.declared.boards.BoardTally.{BoardTally}

abbrev pub Answer : Type 0
Answer = Result (Option Delivery) Refused

-- an edge of a trace, the number of the rule that names its wire and direction, the answer to it,
-- and whether it brings a situation about if it is accepted
pub record Answered : Type 0 where
  pub edge : Edge
  pub rule : ℕ
  pub answer : Answer
  pub comes : Event → Bool

-- Edges of a trace, the newest first. The number of each among all edges of the trace, from 1, is
-- how many there are up to it.
abbrev pub Answers : Type 0
Answers = List Answered

-- an edge, as it is judged on a backplane
abbrev pub answered_edge : State → Edge → Answered
answered_edge b e = record {
  edge = e;
  rule = (rule b.version (readings b.plan b.history e.driver) e.wire e.fall e.value).0;
  answer = answer b e;
  comes = comes b.plan b.history e;
}

-- t, and edges after it, each judged on what was kept of those before it
abbrev pub answered_on : State → Answers → List Edge → Answers
answered_on b t [] = t
answered_on b t (e ∷ es) = answered_on (after b e) (answered_edge b e ∷ t) es

-- the edges of a whole trace, on a backplane without edges
abbrev pub answered : State → List Edge → Answers
answered b es = answered_on b [] es

-- ---- by rule

abbrev pub is_accepted : Answered → Bool
is_accepted a = is_ok a.answer

-- how many are accepted, and refused
abbrev pub accepted : Answers → ℕ
accepted t = count_by is_accepted t

abbrev pub refused : Answers → ℕ
refused t = count_by (λ a. not (is_accepted a)) t

-- how many the k-th rule lets pass
abbrev pub passed_by : ℕ → Answers → ℕ
passed_by k t = count_by (λ a. is_accepted a && a.rule == k) t

-- the answer is that refusal
abbrev pub is_refusal : Refused → Answer → Bool
is_refusal NoSuchDriver (Err NoSuchDriver) = true
is_refusal AlreadyThere (Err AlreadyThere) = true
is_refusal (Rule k) (Err (Rule n)) = n == k
is_refusal (NotSettled k) (Err (NotSettled n)) = n == k
is_refusal TraceFull (Err TraceFull) = true
is_refusal _ _ = false

-- how many are refused so
abbrev pub refused_for : Refused → Answers → ℕ
refused_for r t = count_by (λ a. is_refusal r a.answer) t

-- ---- by situation

-- how many bring it about
abbrev pub times_met : Event → Answers → ℕ
times_met v t = count_by (λ a. is_accepted a && a.comes v) t

-- the number of the first that does
abbrev pub first_met : Event → Answers → Option ℕ
first_met v [] = None
first_met v (a ∷ t) =
    option_or (first_met v t) (if is_accepted a && a.comes v then Some (length (a ∷ t)) else None)

-- ---- by board

-- an edge is accepted, of that driver's wire, and a fall, or a rise
abbrev pub falls : Driver → Wire → Answered → Bool
falls d w a = is_accepted a && is_fall_of d w a.edge

abbrev pub rises : Driver → Wire → Answered → Bool
rises d w a = is_accepted a && (not a.edge.fall && is_edge_of d w a.edge)

-- how many requests, tenures, cycles and answers a board began: its `br-`, `bbsy-`, `as-` and
-- `dtack-` (chapters 2 and 3)
abbrev pub fall_count : Wire → ℕ → Answers → ℕ
fall_count w s t = count_by (falls (Slot s) w) t

-- the answers of a board that delivered its status byte (chapter 4)
abbrev pub delivers : Answer → Bool
delivers (Ok (Some _)) = true
delivers _ = false

abbrev pub delivery_count : ℕ → Answers → ℕ
delivery_count s t = count_by (λ a. falls (Slot s) Dtack a && delivers a.answer) t

-- the number of the last edge that begins something, unless one that ends it came since
abbrev pub last_begun : (Answered → Bool) → (Answered → Bool) → Answers → Option ℕ
last_begun begins ends [] = None
last_begun begins ends (a ∷ t) =
    if begins a then Some (length (a ∷ t))
    else (if ends a then None else last_begun begins ends t)

-- the board's last `br-`, while its request stands and is not met: without a `br+` or a `bbsy-`
-- since (chapter 3)
abbrev pub asks_since : ℕ → Answers → Option ℕ
asks_since s t =
    last_begun (falls (Slot s) Br) (λ a. rises (Slot s) Br a || falls (Slot s) Bbsy a) t

-- the board's last `bbsy-`, while it holds the bus: without a `bbsy+` since (chapter 3)
abbrev pub holds_since : ℕ → Answers → Option ℕ
holds_since s t = last_begun (falls (Slot s) Bbsy) (rises (Slot s) Bbsy) t

-- from an edge to the n-th
abbrev pub spanned : ℕ → Option ℕ → List ℕ
spanned n None = []
spanned n (Some m) = (n - m) ∷ []

-- how long each took that such an edge closed, by the numbers of its first edge and its last
abbrev pub spans : (Answers → Option ℕ) → (Answered → Bool) → Answers → List ℕ
spans since closes [] = []
spans since closes (a ∷ t) =
    (if closes a then spanned (length (a ∷ t)) (since t) else []) ++ spans since closes t

-- a wait is from a board's last `br-` to its `bbsy-`
abbrev pub waits : ℕ → Answers → List ℕ
waits s t = spans (asks_since s) (falls (Slot s) Bbsy) t

-- a hold is from its `bbsy-` to its `bbsy+`
abbrev pub holds : ℕ → Answers → List ℕ
holds s t = spans (holds_since s) (rises (Slot s) Bbsy) t

-- the greatest of some numbers; 0 if there is none
abbrev pub greatest : List ℕ → ℕ
greatest [] = 0
greatest (n ∷ ns) = max n (greatest ns)

-- what a board did
abbrev pub board_tally : ℕ → Answers → BoardTally
board_tally s t = record {
  asked = fall_count Br s t;
  waited = sum (waits s t);
  longest_wait = greatest (waits s t);
  tenures = fall_count Bbsy s t;
  held = sum (holds s t);
  longest_hold = greatest (holds s t);
  cycles = fall_count AddressStrobe s t;
  answered = fall_count Dtack s t;
  delivered = delivery_count s t;
  asks_since = asks_since s t;
  holds_since = holds_since s t;
}
