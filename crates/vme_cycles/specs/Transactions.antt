-- The transactions of a trace, found by looking back through its accepted edges, and the lines
-- that report them. (A cycle is that of chapter 2, with the answer of chapters 2 and 4, and a
-- tenure that of chapter 3; what is reported is this project's profile.) In each definition, k
-- numbers the accepted edges so far.
use Rattle.std.specs.Prelude.{◌≡◌, ◌+◌, ◌&&◌, ◌||◌, ℕ, Bool, true, not, if◌then◌else◌, Option, Some, None, Result, List, [], ◌∷◌, ◌++◌, codes, decimal, is_ok, nat_lt, option_map, unwrap_or}
use Rattle.std.specs.List.{Contains}
use Rattle.std.specs.Option.{option_map_or}
use Rattle.vme_model.specs.declared.deliveries.Delivery.{Delivery}
use Rattle.vme_model.specs.declared.refusals.Refused.{Refused}
use Rattle.vme_model.specs.declared.signals.Cycle.{Cycle}
use Rattle.vme_model.specs.declared.signals.Cycle.TheVariants.{Access, Acknowledge}
use Rattle.vme_model.specs.declared.signals.Driver.{Driver}
use Rattle.vme_model.specs.declared.signals.Driver.TheVariants.{Slot}
use Rattle.vme_model.specs.declared.signals.Edge.{Edge}
use Rattle.vme_model.specs.declared.signals.Wire.{Wire}
use Rattle.vme_model.specs.declared.signals.Wire.TheVariants.{Berr, Br, Bbsy, AddressStrobe, Irq, Dtack}
use Rattle.vme_model.specs.Signals.{driver_number, is_fall_of, is_same_wire}
use Rattle.vme_model.specs.Plan.{Plan}
use Rattle.vme_model.specs.History.{cycles, shown}
use Rattle.vme_model.specs.Verdict.{State, after, verdict}
use Rattle.vme_model.specs.Deliveries.{answer, delivery}
use Rattle.vme_model.specs.GrantSafety.{is_fall_on}
use Rattle.vme_model.specs.Numbered.{Numbered, edges_in, numbered_with, since}
use Rattle.vme_model.specs.Report.{verdict_text}
use Rattle.vme_model.specs.Stands.{holder}
use Rattle.vme_model.specs.Text.{spelling}
use Rattle.vme_cycles.specs.declared.record.CycleAnswer.{CycleAnswer}
use Rattle.vme_cycles.specs.declared.record.CycleAnswer.TheVariants.{Register, BusError, Status}

-- a rise on that wire, whoever makes it
abbrev pub is_rise_on : Wire → Edge → Bool
is_rise_on w e = not e.fall && is_same_wire e.wire w

-- the number of the driver's last edge on the wire; 0 if there was none
abbrev pub last_on : Numbered → Driver → Wire → ℕ
last_on k d w = unwrap_or (since k d w) 0

-- the request that an edge meets, by its number: a `bbsy-` its board's last `br-` (chapter 3), a
-- `dtack-` its board's last `irq-` (chapter 4)
abbrev pub request_of : Numbered → Edge → ℕ
request_of k e =
    if is_same_wire e.wire Bbsy then last_on k e.driver Br
    else (if is_same_wire e.wire Dtack then last_on k e.driver Irq else 0)

-- ---- looking back from an edge

-- whose cycle is under way: the last edge on AS* is a fall of that driver
abbrev pub cycle_of : Numbered → Option Driver
cycle_of [] = None
cycle_of ((n, e) ∷ k) =
    if is_same_wire e.wire AddressStrobe then (if e.fall then Some e.driver else None)
    else cycle_of k

-- whose tenure is under way: the board holds the bus
abbrev pub tenure_of : Plan → Numbered → Option Driver
tenure_of p k = option_map (λ s. Slot s) (holder p (edges_in k))

-- what was shown at the last `as-`
abbrev pub showed : Plan → Numbered → Option Cycle
showed p [] = None
showed p ((n, e) ∷ k) = if is_fall_on AddressStrobe e then shown p (edges_in k) else showed p k

-- an answer: a `dtack-`, or the bus timer's `berr-` (chapter 2)
abbrev pub is_answer : Edge → Bool
is_answer e = is_fall_on Dtack e || is_fall_on Berr e

-- what the answer is, the n-th edge, by what it delivers and the request that it meets
abbrev pub answer_by : ℕ → Edge → Option Delivery → ℕ → CycleAnswer
answer_by n e sent request =
    if is_same_wire e.wire Berr then BusError
    else option_map_or (λ d. Status d.status d.answered_by request) sent (Register n)

-- the answer since the last `as-`
abbrev pub answered : Plan → Numbered → Option CycleAnswer
answered p [] = None
answered p ((n, e) ∷ k) =
    if is_fall_on AddressStrobe e then None
    else (if is_answer e
    then Some (answer_by n e (delivery p (edges_in k) e) (request_of k e))
    else answered p k)

-- the request that the last `bbsy-` met
abbrev pub asked : Numbered → ℕ
asked [] = 0
asked ((n, e) ∷ k) = if is_fall_on Bbsy e then request_of k e else asked k

-- how many cycles, or tenures, ended: each by a rise of AS*, or BBSY*
abbrev pub ended : Wire → Numbered → ℕ
ended w [] = 0
ended w ((n, e) ∷ k) = (if is_rise_on w e then 1 else 0) + ended w k

-- ---- lines

-- from an edge to the last, and the slot; what is under way has no last edge
abbrev pub last_text : Option ℕ → List ℕ
last_text None = []
last_text (Some n) = decimal n

abbrev pub span_text : ℕ → Option ℕ → Driver → List ℕ
span_text first last d =
    (((decimal first ++ codes "..") ++ last_text last) ++ codes " ") ++ decimal (driver_number d)

abbrev pub showed_text : Option Cycle → List ℕ
showed_text None = []
showed_text (Some (Access slot)) = codes " access " ++ decimal slot
showed_text (Some (Acknowledge level)) = codes " acknowledge " ++ decimal level

abbrev pub answer_text : Option CycleAnswer → List ℕ
answer_text None = []
answer_text (Some (Register n)) = codes " answered at " ++ decimal n
answer_text (Some BusError) = codes " bus error"
answer_text (Some (Status status from request)) =
    ((((codes " status " ++ decimal status) ++ codes " from ") ++ decimal from) ++ codes " asked ")
    ++ decimal request

abbrev pub cycle_text : ℕ → Option ℕ → Driver → Option Cycle → Option CycleAnswer → List ℕ
cycle_text first last d v a =
    ((span_text first last d ++ showed_text v) ++ answer_text a) ++ 10 ∷ []

abbrev pub tenure_text : ℕ → Option ℕ → Driver → ℕ → ℕ → List ℕ
tenure_text first last d request made =
    ((((span_text first last d ++ codes " tenure asked ") ++ decimal request) ++ codes " cycles ")
    ++ decimal made)
    ++ 10 ∷ []

abbrev pub refused_text : ℕ → Edge → Result (Option Delivery) Refused → List ℕ
refused_text n e found =
    ((((decimal n ++ codes " refused ") ++ spelling e) ++ codes " ") ++ verdict_text found)
    ++ 10 ∷ []

abbrev pub totals_text : ℕ → ℕ → ℕ → List ℕ
totals_text cycle_count tenure_count refused_count =
    (((((codes "cycles " ++ decimal cycle_count) ++ codes " tenures ") ++ decimal tenure_count)
    ++ codes " refused ")
    ++ decimal refused_count)
    ++ 10 ∷ []

-- the line of the driver's last cycle: from its last `as-`, with what it showed and its answer
abbrev pub cycle_line : Plan → Option ℕ → Driver → Numbered → List ℕ
cycle_line p last d k =
    cycle_text (last_on k d AddressStrobe) last d (showed p k) (answered p k)

-- the line of the driver's last tenure: from its last `bbsy-`, with the request that it met, and
-- its cycles
abbrev pub tenure_line : Option ℕ → Driver → Numbered → List ℕ
tenure_line last d k =
    tenure_text (last_on k d Bbsy) last d (asked k) (cycles (edges_in k) d)

-- the line of what an accepted edge ends, the n-th; nothing if it ends nothing
abbrev pub ended_line : Plan → ℕ → Edge → Numbered → List ℕ
ended_line p n e k =
    if is_rise_on AddressStrobe e then cycle_line p (Some n) e.driver k
    else (if is_rise_on Bbsy e then tenure_line (Some n) e.driver k else [])

-- what is written at the n-th edge
abbrev pub line_at : State → ℕ → Edge → Numbered → List ℕ
line_at b n e k =
    if is_ok (verdict b e) then ended_line b.plan n e k else refused_text n e (answer b e)

-- what is written at the edges after the n-th, each judged on what was kept before it
abbrev pub lines_on : State → ℕ → Numbered → List Edge → List ℕ
lines_on b n k [] = []
lines_on b n k (e ∷ es) =
    line_at b (n + 1) e k ++ lines_on (after b e) (n + 1) (numbered_with b (n + 1) e k) es

-- ---- what is under way

-- the line of the cycle, if one is, and of the tenure
abbrev pub open_cycle_line : Plan → Numbered → List ℕ
open_cycle_line p k = option_map_or (λ d. cycle_line p None d k) (cycle_of k) []

abbrev pub open_tenure_line : Plan → Numbered → List ℕ
open_tenure_line p k = option_map_or (λ d. tenure_line None d k) (tenure_of p k) []

-- the edge that began it; 0 if there is none
abbrev pub cycle_begun : Numbered → ℕ
cycle_begun k = option_map_or (λ d. last_on k d AddressStrobe) (cycle_of k) 0

abbrev pub tenure_begun : Plan → Numbered → ℕ
tenure_begun p k = option_map_or (λ d. last_on k d Bbsy) (tenure_of p k) 0

-- both, the one that began first before the other
abbrev pub open_lines : Plan → Numbered → List ℕ
open_lines p k =
    if nat_lt (tenure_begun p k) (cycle_begun k)
    then open_tenure_line p k ++ open_cycle_line p k
    else open_cycle_line p k ++ open_tenure_line p k

-- ---- what the laws speak of

-- n is the number of a fall of that driver on that wire
abbrev pub IsFallAt : Numbered → Driver → Wire → ℕ → Type 0
IsFallAt k d w n = (e : Edge) × (is_fall_of d w e ≡ true) × Contains k (n, e)
