-- The readings of each condition: the wires that it speaks of, or that hold its line low, and since
-- when. (The lines and chains are those of chapters 2 to 4; what is reported, and its order, is
-- this project's profile.)
use Rattle.std.specs.Prelude.{◌&&◌, if◌then◌else◌, ℕ, Bool, false, Option, Some, None, List, [], ◌∷◌, ◌++◌, map, filter, option_map}
use Rattle.std.specs.Option.{option_map_or, option_and_then, option_to_list}
use Rattle.vme_model.specs.declared.boards.Release.{Release}
use Rattle.vme_model.specs.declared.boards.Release.TheVariants.{Done, Request}
use Rattle.vme_model.specs.declared.boards.InterrupterRow.{InterrupterRow}
use Rattle.vme_model.specs.declared.boards.RequesterRow.{RequesterRow}
use Rattle.vme_model.specs.declared.conditions.Condition.{Condition}
use Rattle.vme_model.specs.declared.conditions.Condition.TheVariants as condition
use Rattle.vme_model.specs.declared.sets.ChainId.{ChainId}
use Rattle.vme_model.specs.declared.sets.ChainId.TheVariants as chain
use Rattle.vme_model.specs.declared.signals.Driver.{Driver}
use Rattle.vme_model.specs.declared.signals.Driver.TheVariants.{Controller, Slot}
use Rattle.vme_model.specs.declared.signals.Wire.{Wire}
use Rattle.vme_model.specs.declared.signals.Wire.TheVariants.{Bg, Iack, Berr, Br, BgOut, Bbsy, Addr, AddressStrobe, DataStrobe, Irq, IackOut, Dtack}
use Rattle.vme_model.specs.declared.signals.Edge.{Edge}
use Rattle.vme_model.specs.declared.witnesses.Witness.{Witness}
use Rattle.vme_model.specs.declared.witnesses.Witness.TheVariants as witness
use Rattle.vme_model.specs.Signals.{grant_level, is_acknowledge}
use Rattle.vme_model.specs.Plan.{board_of, interrupts_on, upstream, last_active, grant_chain, head_wire, out_wire, has_driver, drivers}
use Rattle.vme_model.specs.History.{drive, request_line, addressing, shown, last_level, cycles}
use Rattle.vme_model.specs.Spoken.{level_of}
use Rattle.vme_model.specs.Rules.{bus_numbers, pick}
use Rattle.vme_model.specs.Verdict.{State}
use Rattle.vme_model.specs.Numbered.{Numbered, since, granted_since, served_since, strobed_at}

-- In each of these, k numbers the edges of b, and d is the driver of the edge that is asked about.

-- the board's parts, if it has them
abbrev pub requester_of : State → Driver → Option RequesterRow
requester_of b d = option_and_then (λ r. r.requester) (board_of b.plan d)

abbrev pub interrupter_of : State → Driver → Option InterrupterRow
interrupter_of b d = option_and_then (λ r. r.interrupter) (board_of b.plan d)

-- a driver's wire, reported with a level if there is one
abbrev pub wire_at : State → Numbered → Driver → Wire → Option ℕ → Witness
wire_at b k d Addr level =
    let on = drive b.history d Addr in
    witness.Wire d Addr on (if on then shown b.plan b.history else None) level (since k d Addr)
wire_at b k d w level = witness.Wire d w (drive b.history d w) None level (since k d w)

-- a driver's wire, reported without a level
abbrev pub seen : State → Numbered → Driver → Wire → Witness
seen b k d w = wire_at b k d w None

-- the driver's own wire, if it has it
abbrev pub own : State → Numbered → Driver → Wire → List Witness
own b k d w = if has_driver b.plan d w then seen b k d w ∷ [] else []

-- the driver holds the wire low
abbrev pub holds_low : State → Wire → Driver → Bool
holds_low b w d = has_driver b.plan d w && drive b.history d w

-- each driver that holds the wire low, the controller first, then by slot
abbrev pub low : State → Numbered → Wire → List Witness
low b k w = map (λ d. seen b k d w) (filter (holds_low b w) (drivers b.plan))

-- the controller's grants that are low (chapter 3)
abbrev pub low_grants : State → Numbered → List Witness
low_grants b k =
    map (λ n. seen b k Controller (Bg n))
    (filter (λ n. drive b.history Controller (Bg n)) bus_numbers)

-- each board that requests the bus, with its level (chapter 3)
abbrev pub requests : State → Numbered → List Witness
requests b k =
    map (λ d. wire_at b k d Br (option_map (λ q. q.level) (requester_of b d)))
    (filter (holds_low b Br) (drivers b.plan))

-- the level last granted
abbrev pub granted : State → Numbered → Witness
granted b k = witness.Granted (last_level b.history) (granted_since k)

-- the level that the policy picks (chapter 3)
abbrev pub picked : State → Witness
picked b =
    witness.Picks (pick b.plan.arbiter (request_line b.plan b.history) (last_level b.history))

-- each board that requests an interrupt of that level (chapter 4)
abbrev pub interrupts : State → Numbered → ℕ → List Witness
interrupts b k level =
    map (λ d. seen b k d Irq)
    (filter
    (λ d. option_map_or (interrupts_on level) (board_of b.plan d) false && drive b.history d Irq)
    (drivers b.plan))

-- a segment of a daisy chain: the controller's, or that of a slot (chapters 3 and 4)
abbrev pub segment_at : State → Numbered → ChainId → Option ℕ → Witness
segment_at b k c None = seen b k Controller (head_wire c)
segment_at b k c (Some s) = seen b k (Slot s) (out_wire c)

-- the segment at the board's input of its grant chain, and of the acknowledge chain
abbrev pub grant_input : State → Numbered → Driver → List Witness
grant_input b k d =
    option_to_list (option_and_then (λ r. option_map
    (λ q. segment_at b k (grant_chain q.level) (upstream b.plan (grant_chain q.level) r.slot))
    r.requester)
    (board_of b.plan d))

abbrev pub acknowledge_input : State → Numbered → Driver → List Witness
acknowledge_input b k d =
    option_to_list (option_and_then (λ r. option_map
    (λ i. segment_at b k chain.Iack (upstream b.plan chain.Iack r.slot))
    r.interrupter)
    (board_of b.plan d))

-- the last segment of a chain
abbrev pub last_segment : State → Numbered → ChainId → Witness
last_segment b k c = segment_at b k c (last_active b.plan c)

-- the address group that is on
abbrev pub addressed : State → Numbered → List Witness
addressed b k =
    option_to_list (option_map (λ s. seen b k (Slot s) Addr) (addressing b.plan b.history))

-- the board's cycles in this tenure, if it gives the bus up after a burst
abbrev pub cycles_of : State → Driver → Release → List Witness
cycles_of b d (Done burst) = witness.Cycles d (cycles b.history d) burst ∷ []
cycles_of b d Request = []

abbrev pub bursts : State → Driver → List Witness
bursts b d = option_map_or (λ q. cycles_of b d q.release) (requester_of b d) []

-- the board's `ds-` of this cycle, if there was one
abbrev pub strobe : Numbered → Driver → List Witness
strobe k d = option_to_list (option_map (λ n. witness.Strobed d n) (strobed_at k d))

-- the board's first answer that served its request, while the request is low
abbrev pub service : State → Numbered → Driver → List Witness
service b k d =
    if drive b.history d Irq
    then option_to_list (option_map (λ n. witness.Served d n)
    (option_and_then (λ i. served_since b.plan k d i.kind) (interrupter_of b d)))
    else []

-- the board's request and its level, and what served it
abbrev pub pending_at : State → Numbered → Driver → List Witness
pending_at b k d =
    option_to_list (option_map (λ i. wire_at b k d Irq (Some i.level)) (interrupter_of b d))
    ++ service b k d

-- the readings of a condition on the board's own wires
abbrev pub own_witnesses : State → Numbered → Driver → Condition → List Witness
own_witnesses b k d condition.GrantInHigh = grant_input b k d
own_witnesses b k d condition.GrantInLow = grant_input b k d
own_witnesses b k d condition.AcknowledgeInLow = acknowledge_input b k d
own_witnesses b k d condition.OwnRequestHigh = own b k d Br
own_witnesses b k d condition.OwnRequestLow = own b k d Br
own_witnesses b k d condition.OwnGrantOutHigh = own b k d BgOut
own_witnesses b k d condition.OwnBusyHigh = own b k d Bbsy
own_witnesses b k d condition.OwnBusyLow = own b k d Bbsy
own_witnesses b k d condition.OwnAddressOn = own b k d Addr
own_witnesses b k d condition.OwnAddressOff = own b k d Addr
own_witnesses b k d condition.AddressFree = own b k d Addr ++ own b k d AddressStrobe
own_witnesses b k d condition.OwnAddressStrobeLow = own b k d AddressStrobe
own_witnesses b k d condition.OwnDataStrobeHigh = own b k d DataStrobe
own_witnesses b k d condition.OwnAcknowledgeOutHigh = own b k d IackOut
own_witnesses b k d condition.OwnDtackHigh = own b k d Dtack
own_witnesses b k d condition.Strobed = strobe k d
own_witnesses b k d condition.NotStrobed = strobe k d
own_witnesses b k d condition.WithinBurst = bursts b d
own_witnesses b k d condition.Served = own b k d Irq ++ service b k d
own_witnesses b k d condition.Pending = pending_at b k d
own_witnesses b k d condition.NotPending = pending_at b k d
own_witnesses b k d _ = []

-- the readings of a condition of an edge
abbrev pub witnesses_of : State → Numbered → Edge → Condition → List Witness
witnesses_of b k e condition.GrantsHigh = low_grants b k
witnesses_of b k e condition.Picked = requests b k ++ granted b k ∷ picked b ∷ []
witnesses_of b k e condition.HigherAsked = requests b k ++ granted b k ∷ []
witnesses_of b k e condition.ClearNotDue =
    ((low b k Bbsy ++ low_grants b k) ++ requests b k) ++ granted b k ∷ []
witnesses_of b k e condition.BusyHigh = low b k Bbsy
witnesses_of b k e condition.BusyLow = low b k Bbsy
witnesses_of b k e condition.AddressStrobeHigh = low b k AddressStrobe
witnesses_of b k e condition.AddressStrobeLow = low b k AddressStrobe
witnesses_of b k e condition.DataStrobeHigh = low b k DataStrobe
witnesses_of b k e condition.DataStrobeLow = low b k DataStrobe
witnesses_of b k e condition.DtackHigh = low b k Dtack
witnesses_of b k e condition.BerrHigh = low b k Berr
witnesses_of b k e condition.Answered = low b k Berr ++ low b k Dtack
witnesses_of b k e condition.AcknowledgeShown = addressed b k
witnesses_of b k e condition.CycleShown = addressed b k
witnesses_of b k e condition.OwnSlotShown = addressed b k
witnesses_of b k e condition.Asked = low b k Br
witnesses_of b k e condition.InterruptLow = interrupts b k (level_of e.value)
witnesses_of b k e condition.ChainHigh = low b k Iack ++ low b k IackOut
witnesses_of b k e condition.NobodyCanAnswer =
    addressed b k
    ++ (if is_acknowledge (shown b.plan b.history) then last_segment b k chain.Iack ∷ [] else [])
witnesses_of b k e condition.PassedTheLastBoard =
    last_segment b k (grant_chain (grant_level e.wire)) ∷ []
witnesses_of b k e condition.GrantsThrough = low b k BgOut
witnesses_of b k e condition.OtherState = seen b k e.driver e.wire ∷ []
witnesses_of b k e c = own_witnesses b k e.driver c
