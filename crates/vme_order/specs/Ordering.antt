-- What is written of an order, and what the engine `order` answers.
use Rattle.std.specs.Prelude.{◌≡◌, ◌≢◌, ◌==◌, ◌≤◌, ◌<◌, ◌+◌, ◌++◌, ◌∷◌, [], ℕ, List, length, reverse, codes, decimal, IsTrue, Option, Some, None, Result, Ok, Err, if◌then◌else◌}
use Rattle.std.specs.List.{slice_get}
use Rattle.std.specs.Option.{option_map_or}
use Rattle.vme_model.specs.declared.deliveries.Delivery.{Delivery}
use Rattle.vme_model.specs.declared.refusals.Refused.{Refused}
use Rattle.vme_model.specs.declared.signals.Version.{Version}
use Rattle.vme_model.specs.declared.signals.Edge.{Edge}
use Rattle.vme_model.specs.declared.signals.Driver.TheVariants.{Slot}
use Rattle.vme_model.specs.Plan.{Plan, board}
use Rattle.vme_model.specs.Text.{spelling, text}
use Rattle.vme_model.specs.Verdict.{State, after}
use Rattle.vme_model.specs.Deliveries.{answer}
use Rattle.vme_model.specs.Report.{at_power_up, trace_limit, verdict_text}
use Rattle.vme_scenario.specs.Format.{scenario}
use Rattle.vme_scenario.specs.Errors.{IsErrorOf}
use Rattle.vme_trace.specs.declared.Fault.TheVariants as trace
use Rattle.vme_moments.specs.declared.Seen.{Seen}
use Rattle.vme_moments.specs.declared.slacks.Slacks.{Slacks}
use Rattle.vme_moments.specs.Before.{names}
use Rattle.vme_moments.specs.Moments.{read_of}
use Rattle.vme_moments.specs.Reading.{CanGoOn, IsFaultOf}
use Rattle.vme_moments.specs.declared.MomentsFault.TheVariants as moments
use Rattle.vme_moments.specs.Orders.{IsLongest, AreNext}
use Rattle.vme_order_search.specs.TooMany.{HasTooMany}
use Rattle.vme_reading.specs.declared.Status.{Status}
use Rattle.vme_reading.specs.declared.Status.TheVariants.{Done, SomeRefused}
use Rattle.vme_reading.specs.declared.EngineFault.TheVariants as engine
use Rattle.vme_reading.specs.Outcomes.{scenario_limit}
use Rattle.vme_reading.specs.Streams.{Streams, HasConsumed, IsInput, IsReadOut, ReadNothing, Wrote, WroteFront, WroteNothing}
use Rattle.vme_order.specs.declared.Form.{Form}
use Rattle.vme_order.specs.declared.Form.TheVariants.{Trace, Places}
use Rattle.vme_order.specs.declared.OrderingFault.{OrderingFault}
use Rattle.vme_order.specs.declared.OrderingFault.TheVariants as fault

abbrev pub Answer : Type 0
Answer = Result Status OrderingFault

-- The places of the longest legal beginning, of those of its length the least, oldest first; and
-- the places that can come next after it.
pub record IsFound (version : Version) (p : Plan) (x : Slacks) (ms : List Seen)
    (order next : List ℕ) : Type 0 where
  pub longest : IsLongest version p x ms (reverse order)
  pub behind : AreNext x ms (reverse order) next

-- what was seen at these places
abbrev pub seen_at : List Seen → List ℕ → List Seen
seen_at ms [] = []
seen_at ms (j ∷ places) =
    option_map_or (λ s. s ∷ seen_at ms places) (slice_get ms j) (seen_at ms places)

abbrev pub edges_of : List Seen → List Edge
edges_of [] = []
edges_of (s ∷ ss) = s.edge ∷ edges_of ss

-- a blank and the verdict of an edge that is refused; of one that is accepted nothing
abbrev pub refusal_text : Result (Option Delivery) Refused → List ℕ
refusal_text (Ok d) = []
refusal_text (Err refused) = codes " " ++ verdict_text (Err refused)

-- where the n-th edge was seen, and its verdict if it is refused
abbrev pub place_line : ℕ → Seen → Result (Option Delivery) Refused → List ℕ
place_line n s found =
    (((((((decimal n ++ codes " ") ++ spelling s.edge) ++ codes " line ") ++ decimal s.line)
    ++ codes " moment ") ++ decimal s.moment) ++ refusal_text found) ++ 10 ∷ []

-- a line for each edge, from the n-th on, each judged on what was kept before it
abbrev pub place_lines : State → ℕ → List Seen → List ℕ
place_lines b n [] = []
place_lines b n (s ∷ ss) =
    place_line n s (answer b s.edge) ++ place_lines (after b s.edge) (n + 1) ss

-- what is written of what was seen, in that order
abbrev pub form_text : Form → Version → Plan → List Seen → List ℕ
form_text Trace version p ss = text version (edges_of ss)
form_text Places version p ss = place_lines (at_power_up version p trace_limit) 1 ss

-- an order with all places is written with status 0
abbrev pub status_of : List Seen → List ℕ → Status
status_of ms order = if length order == length ms then Done else SomeRefused

-- the text of what was found
abbrev pub found_text : Form → Version → Plan → List Seen → List ℕ → List ℕ → List ℕ
found_text form version p ms order next = form_text form version p (seen_at ms (order ++ next))

-- Moments of a version without a fault, and what is found of them.
pub record Finds (x : Slacks) (p : Plan) (bytes : List ℕ) : Type 0 where
  pub version : Version
  pub named : (read_of bytes).version ≡ Some version
  pub whole : (read_of bytes).fault ≡ None
  pub order : List ℕ
  pub next : List ℕ
  pub found : IsFound version p x (read_of bytes).seen order next

abbrev pub finds_text : Form → (x : Slacks) → (p : Plan) → (bytes : List ℕ) → Finds x p bytes
    → List ℕ
finds_text form x p bytes f = found_text form f.version p (read_of bytes).seen f.order f.next

-- Moments without a fault, of which there are too many orders.
pub record FindsTooMany (x : Slacks) (p : Plan) (bytes : List ℕ) : Type 0 where
  pub version : Version
  pub named : (read_of bytes).version ≡ Some version
  pub whole : (read_of bytes).fault ≡ None
  pub many : HasTooMany version p x (read_of bytes).seen

-- each board that is named with a slack of its own is there; no slot is greater than 21
abbrev pub NamesBoards : Slacks → Plan → Type 0
NamesBoards x p = (slot : ℕ) → slot < 22 → IsTrue (names x (Slot slot)) → board p slot ≢ None

-- the first slot that is named with a slack of its own and has no board
pub record IsFirstEmpty (x : Slacks) (p : Plan) (slot : ℕ) : Type 0 where
  pub named : IsTrue (names x (Slot slot))
  pub empty : board p slot ≡ None
  pub first : (s : ℕ) → s < slot → IsTrue (names x (Slot s)) → board p s ≢ None

-- What an order of moments on a plan leaves. A slot without a board is reported first, then a fault
-- of the moments, and then F5 or F3. If one of these is reported, nothing was written. X5: what was
-- read can go on. X6: at an edge before the first fault.
abbrev pub Orders : Form → Slacks → Plan → List ℕ → Streams → Answer → Type 0
Orders form x p bytes s (Ok status) =
    NamesBoards x p × (f : Finds x p bytes) × IsReadOut s × Wrote s (finds_text form x p bytes f)
    × (status ≡ status_of (read_of bytes).seen f.order)
Orders form x p bytes s (Err (fault.NoBoard slot)) =
    IsFirstEmpty x p slot × ReadNothing s × WroteNothing s
Orders form x p bytes s (Err (fault.Moments (moments.Trace trace.Read))) =
    NamesBoards x p × (read : List ℕ) × HasConsumed s read × CanGoOn read × WroteNothing s
Orders form x p bytes s (Err (fault.Moments f)) =
    NamesBoards x p × IsFaultOf bytes f × WroteNothing s
Orders form x p bytes s (Err fault.TooManyOrders) =
    NamesBoards x p × FindsTooMany x p bytes × WroteNothing s
Orders form x p bytes s (Err (fault.Engine engine.NoMemory)) =
    NamesBoards x p × ((read_of bytes).fault ≡ None) × WroteNothing s
Orders form x p bytes s (Err (fault.Engine (engine.Trace trace.Write))) =
    NamesBoards x p × (f : Finds x p bytes) × WroteFront s (finds_text form x p bytes f)
Orders form x p bytes s (Err (fault.Engine _)) = ⊥

-- an order of the whole input
abbrev pub OrdersInput : Form → Slacks → Streams → Plan → Answer → Type 0
OrdersInput form x s p answer =
    (bytes : List ℕ) × IsInput s.from bytes × Orders form x p bytes s answer

-- An engine that is lent the text of a scenario: the first fault is answered and `nothing` is
-- done, or it runs on the plan.
abbrev pub LentText : List ℕ → Type 0 → (Plan → Answer → Type 0) → Answer → Type 0
LentText text nothing Runs (Err (fault.Engine engine.TooLong)) =
    (scenario_limit < length text) × nothing
LentText text nothing Runs (Err (fault.Engine (engine.Scenario e))) =
    (length text ≤ scenario_limit) × IsErrorOf (scenario text) e × nothing
LentText text nothing Runs answer =
    (p : Plan) × (length text ≤ scenario_limit) × (scenario text ≡ Ok p) × Runs p answer
