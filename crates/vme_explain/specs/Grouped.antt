-- What is printed about a condition, by groups of conditions.
use Rattle.std.specs.Prelude.{◌++◌, ◌∷◌, if◌then◌else◌, Bool, true, false, Option, Some, None, List, []}
use Rattle.std.specs.Option.{option_map_or}
use Rattle.vme_model.specs.declared.conditions.Condition.{Condition}
use Rattle.vme_model.specs.declared.conditions.Condition.TheVariants as condition
use Rattle.vme_model.specs.declared.sets.ChainId.TheVariants as chain
use Rattle.vme_model.specs.declared.signals.Driver.{Driver}
use Rattle.vme_model.specs.declared.signals.Wire.{Wire}
use Rattle.vme_model.specs.declared.signals.Wire.TheVariants.{Iack, Berr, Br, BgOut, Bbsy, Addr, AddressStrobe, DataStrobe, Irq, IackOut, Dtack}
use Rattle.vme_model.specs.declared.signals.Edge.{Edge}
use Rattle.vme_model.specs.declared.witnesses.Witness.{Witness}
use Rattle.vme_model.specs.Signals.{grant_level, is_acknowledge}
use Rattle.vme_model.specs.Plan.{grant_chain}
use Rattle.vme_model.specs.History.{shown}
use Rattle.vme_model.specs.Spoken.{level_of}
use Rattle.vme_model.specs.Verdict.{State}
use Rattle.vme_model.specs.Numbered.{Numbered}
use Rattle.vme_model.specs.Witnesses.{seen, own, low, low_grants, requests, granted, picked, interrupts, grant_input, acknowledge_input, last_segment, addressed, bursts, strobe, service}
use Rattle.vme_explain.specs.Witnessed.{request_witness}

-- shown by who asks for something, or what they are granted
abbrev pub is_of_askers : Condition → Bool
is_of_askers condition.GrantsHigh = true
is_of_askers condition.Picked = true
is_of_askers condition.HigherAsked = true
is_of_askers condition.ClearNotDue = true
is_of_askers condition.InterruptLow = true
is_of_askers _ = false

abbrev pub askers_witnesses : State → Numbered → Edge → Condition → List Witness
askers_witnesses b k e condition.GrantsHigh = low_grants b k
askers_witnesses b k e condition.Picked = requests b k ++ granted b k ∷ picked b ∷ []
askers_witnesses b k e condition.HigherAsked = requests b k ++ granted b k ∷ []
askers_witnesses b k e condition.ClearNotDue =
    (low b k Bbsy ++ low_grants b k) ++ (requests b k ++ granted b k ∷ [])
askers_witnesses b k e condition.InterruptLow = interrupts b k (level_of e.value)
askers_witnesses b k e _ = []

-- the line that a condition speaks of, or the first of two
abbrev pub first_line : Condition → Option Wire
first_line condition.BusyHigh = Some Bbsy
first_line condition.BusyLow = Some Bbsy
first_line condition.AddressStrobeHigh = Some AddressStrobe
first_line condition.AddressStrobeLow = Some AddressStrobe
first_line condition.DataStrobeHigh = Some DataStrobe
first_line condition.DataStrobeLow = Some DataStrobe
first_line condition.DtackHigh = Some Dtack
first_line condition.BerrHigh = Some Berr
first_line condition.Answered = Some Berr
first_line condition.Asked = Some Br
first_line condition.ChainHigh = Some Iack
first_line condition.GrantsThrough = Some BgOut
first_line _ = None

abbrev pub second_line : Condition → Option Wire
second_line condition.Answered = Some Dtack
second_line condition.ChainHigh = Some IackOut
second_line _ = None

abbrev pub line_witnesses : State → Numbered → Option Wire → List Witness
line_witnesses b k line = option_map_or (λ w. low b k w) line []

-- the last segment that an acknowledge has to pass
abbrev pub last_witness : State → Numbered → List Witness
last_witness b k =
    if is_acknowledge (shown b.plan b.history) then last_segment b k chain.Iack ∷ [] else []

-- what is shown, a last segment, or the edge's own wire
abbrev pub place_witnesses : State → Numbered → Edge → Condition → List Witness
place_witnesses b k e condition.AcknowledgeShown = addressed b k
place_witnesses b k e condition.CycleShown = addressed b k
place_witnesses b k e condition.OwnSlotShown = addressed b k
place_witnesses b k e condition.NobodyCanAnswer = addressed b k ++ last_witness b k
place_witnesses b k e condition.PassedTheLastBoard =
    last_segment b k (grant_chain (grant_level e.wire)) ∷ []
place_witnesses b k e condition.OtherState = seen b k e.driver e.wire ∷ []
place_witnesses b k e _ = []

-- the board's own wire that a condition speaks of, or the first of two
abbrev pub own_wire : Condition → Option Wire
own_wire condition.OwnRequestHigh = Some Br
own_wire condition.OwnRequestLow = Some Br
own_wire condition.OwnGrantOutHigh = Some BgOut
own_wire condition.OwnBusyHigh = Some Bbsy
own_wire condition.OwnBusyLow = Some Bbsy
own_wire condition.OwnAddressOn = Some Addr
own_wire condition.OwnAddressOff = Some Addr
own_wire condition.AddressFree = Some Addr
own_wire condition.OwnAddressStrobeLow = Some AddressStrobe
own_wire condition.OwnDataStrobeHigh = Some DataStrobe
own_wire condition.OwnAcknowledgeOutHigh = Some IackOut
own_wire condition.OwnDtackHigh = Some Dtack
own_wire condition.Served = Some Irq
own_wire _ = None

abbrev pub own_first : State → Numbered → Driver → Condition → List Witness
own_first b k d condition.Pending = request_witness b k d
own_first b k d condition.NotPending = request_witness b k d
own_first b k d c = option_map_or (λ w. own b k d w) (own_wire c) []

-- what else of the board a condition speaks of
abbrev pub own_second : State → Numbered → Driver → Condition → List Witness
own_second b k d condition.GrantInHigh = grant_input b k d
own_second b k d condition.GrantInLow = grant_input b k d
own_second b k d condition.AcknowledgeInLow = acknowledge_input b k d
own_second b k d condition.AddressFree = own b k d AddressStrobe
own_second b k d condition.Strobed = strobe k d
own_second b k d condition.NotStrobed = strobe k d
own_second b k d condition.WithinBurst = bursts b d
own_second b k d condition.Served = service b k d
own_second b k d condition.Pending = service b k d
own_second b k d condition.NotPending = service b k d
own_second b k d _ = []

-- what is printed about a condition that is not of those that ask
abbrev pub other_witnesses : State → Numbered → Edge → Condition → List Witness
other_witnesses b k e c =
    (((line_witnesses b k (first_line c) ++ line_witnesses b k (second_line c))
    ++ place_witnesses b k e c)
    ++ own_first b k e.driver c)
    ++ own_second b k e.driver c
