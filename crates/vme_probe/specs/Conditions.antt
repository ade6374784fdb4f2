-- The conditions of each change for one driver, in order: those of the standard first, and then the
-- profile's. (The guards of the rules are those of `vme_model.specs.Rules`; this project's profile
-- orders them.)
use Rattle.std.specs.Prelude.{◌==◌, ◌||◌, ◌∷◌, if◌then◌else◌, [], ℕ, Bool, true, false, not, List, Option, Some, None, is_some, length, nat_lt, unwrap_or}
use Rattle.std.specs.List.{list_any}
use Rattle.std.specs.Option.{option_map_or}
use Rattle.vme_model.specs.declared.boards.InterrupterRow.{InterrupterRow}
use Rattle.vme_model.specs.declared.boards.RequesterRow.{RequesterRow}
use Rattle.vme_model.specs.declared.conditions.Condition.TheVariants.{OwnBusyHigh, OwnBusyLow, GrantInLow, GrantInHigh, OwnGrantOutHigh, OwnRequestLow, OwnRequestHigh, Asked, ChainHigh, OwnDataStrobeHigh, Strobed, OwnAddressStrobeLow, DtackHigh, BerrHigh, NotStrobed, Answered, DataStrobeLow, DataStrobeHigh, OwnSlotShown, AcknowledgeInLow, OwnAcknowledgeOutHigh, NobodyCanAnswer, BusyLow, BusyHigh, HigherAsked, ArbiterIsPri, GrantsHigh, ClearNotDue, GrantsThrough, PassedTheLastBoard, AddressStrobeLow, AddressStrobeHigh, AcknowledgeShown, OwnDtackHigh}
use Rattle.vme_model.specs.declared.sentences.Rule.{Rule}
use Rattle.vme_model.specs.declared.sentences.Rule.TheVariants.{G1, G2, G3, G4, G5, G6, G7, G8, G9, G10, G11, G12, G13, G14, G15, G17, G18, G19, G23, G24, G25, G26, S1, S2, S3, S4}
use Rattle.vme_model.specs.declared.sets.BusLevels.{BusLevels}
use Rattle.vme_model.specs.declared.sets.ChainId.TheVariants as chain
use Rattle.vme_model.specs.declared.signals.Cycle.TheVariants as cycle
use Rattle.vme_model.specs.declared.signals.Driver.{Driver}
use Rattle.vme_model.specs.declared.signals.Version.{Version}
use Rattle.vme_model.specs.declared.signals.Wire.TheVariants as wire
use Rattle.vme_model.specs.Plan.{Plan, board, last_active}
use Rattle.vme_model.specs.Rules.{is_pri}
use Rattle.vme_model.specs.Sets.{has_bus_level, has_level}
use Rattle.vme_model.specs.Signals.{driver_number, is_two}
use Rattle.vme_bus.specs.Sets.{has}
use Rattle.vme_captures.specs.declared.signals.Change.{Change}
use Rattle.vme_captures.specs.declared.signals.Line.{Line}
use Rattle.vme_captures.specs.declared.signals.Line.TheVariants as line
use Rattle.vme_captures.specs.declared.signals.Value.{Value}
use Rattle.vme_captures.specs.declared.signals.Value.TheVariants as value
use Rattle.vme_captures.specs.Levels.{is_line_left_low}
use Rattle.vme_standings.specs.declared.cuts.PhaseFact.TheVariants.{SegmentLow, SegmentHigh, HeldBy, NotHeldBy, Picked, AskedAbove, GrantsHigh as AreGrantsHigh, AllHigh, PastAll}
use Rattle.vme_standings.specs.declared.moving.Moved.{Moved}
use Rattle.vme_standings.specs.declared.moving.Moved.TheVariants as moved
use Rattle.vme_standings.specs.declared.standings.Shown.{Shown}
use Rattle.vme_standings.specs.declared.standings.Shown.TheVariants.{Access, Acknowledge}
use Rattle.vme_standings.specs.declared.standings.Standings.{Standings}
use Rattle.vme_standings.specs.Fronts.{input_place}
use Rattle.vme_standings.specs.GrantChains.{end_place, place_before, requester_at}
use Rattle.vme_standings.specs.Grants.{may_end}
use Rattle.vme_standings.specs.Moving.{asked, moved_by}
use Rattle.vme_probe.specs.declared.demands.Demand.{Demand}
use Rattle.vme_probe.specs.declared.demands.RequestTest.TheVariants.{Pulls, Served, OthersHigh, Pending, NotPending as IsNotPending}
use Rattle.vme_probe.specs.declared.obstacles.Obstacle.{Obstacle}
use Rattle.vme_probe.specs.declared.obstacles.Obstacle.TheVariants.{NotLow, Fails, NotPicked, NotHandled, NotServed, OtherLow, NotPending, IsPending, NoAcknowledge, OtherByte}
use Rattle.vme_probe.specs.Demands.{first_failing, interrupter_at, is_left, on_chain, on_clear, on_grants, on_requests, places, when_known}

-- the line is low
abbrev pub low : Standings → Line → Bool
low s l = is_line_left_low s.lines l

-- A condition on DS0*. In what follows `own` is the driver's slot, 0 for the controller.
abbrev pub strobe_low : Rule → Standings → Demand
strobe_low r s = when_known (Fails r DataStrobeLow) (low s line.DataStrobe)

abbrev pub strobe_high : Rule → Standings → Demand
strobe_high r s = when_known (Fails r DataStrobeHigh) (not (low s line.DataStrobe))

abbrev pub dtack_high : Rule → Standings → Demand
dtack_high r s = when_known (Fails r DtackHigh) (not (low s line.Dtack))

-- BRn* falls
abbrev pub request_falls : ℕ → List Demand
request_falls own = on_grants (Fails G9 OwnBusyHigh) (NotHeldBy own) ∷ []

-- BRn* rises: in the second version nothing stands in the way
abbrev pub request_rises : Version → ℕ → List Demand
request_rises version own =
    if is_two version then [] else on_grants (Fails G10 OwnBusyLow) (HeldBy own) ∷ []

-- IRQn* rises
abbrev pub interrupt_rises : Option InterrupterRow → List Demand
interrupt_rises None = []
interrupt_rises (Some i) =
    on_requests (NotLow wire.Irq) Pulls ∷ on_requests (NotServed i.kind) Served
    ∷ on_requests OtherLow OthersHigh ∷ []

-- BBSY* falls
abbrev pub busy_falls : Plan → BusLevels → ℕ → Option RequesterRow → List Demand
busy_falls p requests own None = []
busy_falls p requests own (Some q) =
    on_grants (Fails G13 GrantInLow) (SegmentLow q.level (place_before p q.level own))
    ∷ on_grants (Fails G13 OwnGrantOutHigh) (SegmentHigh q.level own)
    ∷ when_known (Fails G13 OwnRequestLow) (has_bus_level requests q.level) ∷ []

-- BBSY* rises
abbrev pub busy_rises : Plan → BusLevels → ℕ → Option RequesterRow → List Demand
busy_rises p requests own None = []
busy_rises p requests own (Some q) =
    on_grants (NotLow wire.Bbsy) (HeldBy own)
    ∷ when_known (Fails G14 Asked) (may_end requests q.release)
    ∷ on_grants (Fails G14 GrantInHigh) (SegmentHigh q.level (place_before p q.level own)) ∷ []

-- no probed segment of the acknowledge chain is low
abbrev pub is_chain_high : Standings → Bool
is_chain_high s = not (list_any (λ place. has s.low.acknowledge place) places)

-- the board handles the level
abbrev pub handles : Plan → ℕ → ℕ → Bool
handles p own n = option_map_or (λ r. has_level r.handler n) (board p own) false

-- AS* falls, with what it shows
abbrev pub address_falls : Plan → Standings → ℕ → Option Value → List Demand
address_falls p s own (Some (value.Shown (cycle.Acknowledge n))) =
    on_grants (Fails G15 OwnBusyLow) (HeldBy own)
    ∷ when_known (NotHandled n) (handles p own n)
    ∷ when_known (Fails S1 ChainHigh) (is_chain_high s) ∷ []
address_falls p s own _ =
    on_grants (Fails G15 OwnBusyLow) (HeldBy own)
    ∷ when_known (Fails S1 ChainHigh) (is_chain_high s) ∷ []

-- AS* rises
abbrev pub address_rises : Standings → ℕ → List Demand
address_rises s own =
    when_known (NotLow wire.AddressStrobe) (has s.addressers own)
    ∷ when_known (Fails G19 OwnDataStrobeHigh) (not (low s line.DataStrobe))
    ∷ when_known (Fails G19 Strobed) s.strobed ∷ []

-- DS* falls
abbrev pub data_falls : Standings → ℕ → List Demand
data_falls s own =
    when_known (Fails G17 OwnAddressStrobeLow) (has s.addressers own) ∷ dtack_high G17 s
    ∷ when_known (Fails G17 BerrHigh) (not (low s line.Berr))
    ∷ when_known (Fails G17 NotStrobed) (not s.strobed) ∷ []

-- DS* rises
abbrev pub data_rises : Standings → ℕ → List Demand
data_rises s own =
    when_known (NotLow wire.DataStrobe) (has s.addressers own)
    ∷ when_known (Fails G18 Answered) (low s line.Dtack || low s line.Berr) ∷ []

-- an access of this slot is answered; the slot may not be known
abbrev pub is_slot_shown : Standings → ℕ → Option ℕ → Bool
is_slot_shown s own None = not (low s line.Berr)
is_slot_shown s own (Some t) = t == own

-- DTACK* falls in an access, maybe with a status byte
abbrev pub access_answered : Standings → ℕ → Option ℕ → Option Value → List Demand
access_answered s own t (Some (value.Status b)) =
    strobe_low G25 s ∷ when_known (Fails G25 OwnSlotShown) (is_slot_shown s own t)
    ∷ when_known NoAcknowledge false ∷ []
access_answered s own t _ =
    strobe_low G25 s ∷ when_known (Fails G25 OwnSlotShown) (is_slot_shown s own t) ∷ []

-- DTACK* falls in an acknowledge of a level, maybe with a status byte
abbrev pub acknowledge_answered :
    Plan → Standings → ℕ → ℕ → Option Value → Option InterrupterRow → List Demand
acknowledge_answered p s own n x None =
    strobe_low G25 s ∷ when_known (Fails G25 AcknowledgeInLow) false ∷ []
acknowledge_answered p s own n (Some (value.Status b)) (Some i) =
    strobe_low G25 s ∷ on_chain (Fails G25 AcknowledgeInLow) (input_place p own) true
    ∷ when_known (NotPending n) (i.level == n) ∷ on_requests (NotPending n) Pending
    ∷ when_known (OtherByte b) (i.status == b)
    ∷ on_chain (Fails G25 OwnAcknowledgeOutHigh) own false ∷ []
acknowledge_answered p s own n _ (Some i) =
    strobe_low G25 s ∷ on_chain (Fails G25 AcknowledgeInLow) (input_place p own) true
    ∷ when_known (NotPending n) (i.level == n) ∷ on_requests (NotPending n) Pending
    ∷ on_chain (Fails G25 OwnAcknowledgeOutHigh) own false ∷ []

-- DTACK* falls
abbrev pub answer_falls : Plan → Standings → ℕ → Option Value → Option Shown → List Demand
answer_falls p s own x None = strobe_low G25 s ∷ []
answer_falls p s own x (Some (Access t)) = access_answered s own t x
answer_falls p s own x (Some (Acknowledge n)) =
    acknowledge_answered p s own n x (interrupter_at p own)

-- DTACK* rises
abbrev pub answer_rises : Standings → ℕ → List Demand
answer_rises s own =
    when_known (NotLow wire.Dtack) (has s.answerers own) ∷ strobe_high G26 s ∷ []

-- nobody can answer what is shown: the acknowledge has passed the last board, the accessed slot is
-- empty, or some slot is
abbrev pub nobody_answers : Plan → Option Shown → Demand
nobody_answers p None = when_known (Fails S2 NobodyCanAnswer) false
nobody_answers p (Some (Access None)) =
    when_known (Fails S2 NobodyCanAnswer) (nat_lt (length p.rows) 21)
nobody_answers p (Some (Access (Some t))) =
    when_known (Fails S2 NobodyCanAnswer) (not (is_some (board p t)))
nobody_answers p (Some (Acknowledge n)) =
    on_chain (Fails S2 NobodyCanAnswer) (unwrap_or (last_active p chain.Iack) 0) true

-- BERR* falls
abbrev pub error_falls : Plan → Standings → List Demand
error_falls p s = strobe_low G7 s ∷ dtack_high G7 s ∷ nobody_answers p s.shown ∷ []

-- BCLR* falls
abbrev pub clear_falls : Plan → Standings → List Demand
clear_falls p s =
    when_known (Fails G3 BusyLow) (low s line.Bbsy)
    ∷ on_grants (Fails G3 HigherAsked) (AskedAbove (asked s.lines))
    ∷ when_known (Fails G3 ArbiterIsPri) (is_pri p.arbiter)
    ∷ on_grants (Fails G3 GrantsHigh) AreGrantsHigh ∷ []

-- BCLR* rises
abbrev pub clear_rises : Standings → List Demand
clear_rises s = on_clear (Fails G4 ClearNotDue) (asked s.lines) ∷ []

-- the controller's grant of a level falls
abbrev pub grant_falls : Version → Standings → ℕ → List Demand
grant_falls version s c =
    when_known (Fails G1 BusyHigh) (not (low s line.Bbsy))
    ∷ on_grants (NotPicked c) (Picked (asked s.lines) c)
    ∷ on_grants (Fails G1 GrantsHigh) AreGrantsHigh
    ∷ (if is_two version then on_grants (Fails S4 GrantsThrough) AllHigh ∷ [] else [])

-- it rises
abbrev pub grant_rises : Version → Standings → ℕ → List Demand
grant_rises version s c =
    if is_two version then on_grants (Fails S3 PassedTheLastBoard) (PastAll c) ∷ []
    else when_known (Fails G2 BusyLow) (low s line.Bbsy) ∷ []

-- A board's bus grant out falls. In the first version the last board of the chain does not pass the
-- grant on: it was granted since that board asked.
abbrev pub pass_falls : Plan → Version → ℕ → ℕ → List Demand
pass_falls p version c own =
    on_grants (Fails G11 GrantInLow) (SegmentLow c (place_before p c own))
    ∷ on_grants (Fails G11 OwnBusyHigh) (NotHeldBy own)
    ∷ when_known (Fails G11 OwnRequestHigh) (is_two version || not (own == end_place p c)) ∷ []

-- it rises
abbrev pub pass_rises : Plan → ℕ → ℕ → List Demand
pass_rises p c own =
    on_grants (Fails G12 GrantInHigh) (SegmentHigh c (place_before p c own)) ∷ []

abbrev pub is_acknowledge_shown : Option Shown → Bool
is_acknowledge_shown (Some (Acknowledge n)) = true
is_acknowledge_shown _ = false

-- the controller starts the acknowledge
abbrev pub start_falls : Standings → List Demand
start_falls s =
    when_known (Fails G5 AddressStrobeLow) (low s line.AddressStrobe) ∷ strobe_low G5 s
    ∷ when_known (Fails G5 AcknowledgeShown) (is_acknowledge_shown s.shown) ∷ []

-- the board's interrupter is of the level
abbrev pub is_on_level : ℕ → Option InterrupterRow → Bool
is_on_level n i = option_map_or (λ r. r.level == n) i false

-- a board passes on what is shown
abbrev pub passed_on : Plan → Standings → ℕ → Option Shown → List Demand
passed_on p s own (Some (Acknowledge n)) =
    strobe_low G23 s ∷ when_known (Fails G23 AcknowledgeShown) true
    ∷ on_chain (Fails G23 AcknowledgeInLow) (input_place p own) true
    ∷ when_known (Fails G23 OwnDtackHigh) (not (low s line.Dtack))
    ∷ (if is_on_level n (interrupter_at p own)
    then on_requests (IsPending n) IsNotPending ∷ [] else [])
passed_on p s own _ =
    strobe_low G23 s ∷ when_known (Fails G23 AcknowledgeShown) false ∷ []

-- a segment of the acknowledge chain rises
abbrev pub chain_rises : Rule → Standings → List Demand
chain_rises r s = when_known (Fails r AddressStrobeHigh) (not (low s line.AddressStrobe)) ∷ []

-- a shared line falls
abbrev pub line_falls : Plan → Standings → ℕ → Line → Option Value → List Demand
line_falls p s own (line.Br n) x = request_falls own
line_falls p s own (line.Irq n) x = []
line_falls p s own line.Bbsy x = busy_falls p (asked s.lines) own (requester_at p own)
line_falls p s own line.AddressStrobe x = address_falls p s own x
line_falls p s own line.DataStrobe x = data_falls s own
line_falls p s own line.Dtack x = answer_falls p s own x s.shown
line_falls p s own line.Berr x = error_falls p s
line_falls p s own line.Bclr x = clear_falls p s

-- it rises
abbrev pub line_rises : Plan → Version → Standings → ℕ → Line → List Demand
line_rises p version s own (line.Br n) = request_rises version own
line_rises p version s own (line.Irq n) = interrupt_rises (interrupter_at p own)
line_rises p version s own line.Bbsy =
    busy_rises p (asked s.lines) own (requester_at p own)
line_rises p version s own line.AddressStrobe = address_rises s own
line_rises p version s own line.DataStrobe = data_rises s own
line_rises p version s own line.Dtack = answer_rises s own
line_rises p version s own line.Berr = strobe_high G8 s ∷ []
line_rises p version s own line.Bclr = clear_rises s

-- a segment of a level's grant chain falls, or rises; 0 is the controller's place
abbrev pub grant_moves : Plan → Version → Standings → ℕ → ℕ → ℕ → Bool → List Demand
grant_moves p version s own c place true =
    if place == 0 then grant_falls version s c else pass_falls p version c own
grant_moves p version s own c place false =
    if place == 0 then grant_rises version s c else pass_rises p c own

-- the same of the acknowledge chain
abbrev pub acknowledge_moves : Plan → Standings → ℕ → ℕ → Bool → List Demand
acknowledge_moves p s own place true =
    if place == 0 then start_falls s else passed_on p s own s.shown
acknowledge_moves p s own place false =
    if place == 0 then chain_rises G6 s else chain_rises G24 s

abbrev pub moves :
    Plan → Version → Standings → ℕ → Moved → Bool → Option Value → List Demand
moves p version s own (moved.Line l) true x = line_falls p s own l x
moves p version s own (moved.Line l) false x = line_rises p version s own l
moves p version s own (moved.Grant c place) fall x = grant_moves p version s own c place fall
moves p version s own (moved.Acknowledge place) fall x = acknowledge_moves p s own place fall

-- the conditions of a change
abbrev pub demands : Plan → Version → Standings → Change → Driver → List Demand
demands p version s change d =
    moves p version s (driver_number d) (moved_by p change.signal) change.fall change.value

-- The first condition of the change that holds of the driver in none of the standings in which
-- those before it hold, if there is one.
abbrev pub obstacle : Plan → Version → Standings → Change → Driver → Option Obstacle
obstacle p version s change d =
    first_failing (is_left p s (driver_number d)) [] (demands p version s change d)
