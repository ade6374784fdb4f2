-- Where each condition of a rule comes from: a chapter of the standard, or this project's profile.
-- A condition is the standard's if a sentence of the chapter asks for just that, times aside. What
-- makes it stricter, or says when, is the profile's. (The standard's text was not at hand; RULES.md
-- marks what rests on memory.)
use Rattle.std.specs.Prelude.{◌&&◌, ◌||◌, ℕ, Bool, true, false, if◌then◌else◌, Option, Some, None, List, [], ◌∷◌, ◌++◌, codes, decimal}
use Rattle.std.specs.List.{list_any}
use Rattle.std.specs.Option.{option_map_or}
use denote.Enum.Bare.{sameb}
use Rattle.vme_model.specs.contracts.conditions.Condition.{the_type}
use Rattle.vme_model.specs.declared.conditions.Condition.{Condition}
use Rattle.vme_model.specs.declared.conditions.Condition.TheVariants.{GrantsHigh, BusyHigh, Picked, BusyLow, ArbiterIsPri, HigherAsked, ClearNotDue, AddressStrobeLow, DataStrobeLow, AcknowledgeShown, AddressStrobeHigh, DtackHigh, DataStrobeHigh, OwnBusyHigh, OwnBusyLow, GrantInLow, OwnRequestHigh, GrantInHigh, OwnGrantOutHigh, OwnRequestLow, AddressFree, Asked, WithinBurst, Handled, InterruptLow, OwnAddressOn, OwnAddressStrobeLow, BerrHigh, NotStrobed, Answered, OwnDataStrobeHigh, Strobed, OwnAddressOff, Served, AcknowledgeInLow, OwnDtackHigh, NotPending, OwnAcknowledgeOutHigh, Pending, OwnSlotShown, CycleShown, ChainHigh, NobodyCanAnswer, PassedTheLastBoard, GrantsThrough}
use Rattle.vme_model.specs.declared.sentences.Rule.{Rule}
use Rattle.vme_model.specs.declared.sentences.Rule.TheVariants.{G1, G2, G3, G4, G5, G6, G7, G8, G9, G10, G11, G12, G13, G14, G15, G16, G17, G18, G19, G20, G21, G22, G23, G24, G25, G26, S1, S2, S3, S4}
use Rattle.vme_model.specs.declared.sources.Chapter.{Chapter}
use Rattle.vme_model.specs.declared.sources.Chapter.TheVariants.{DataTransfer, Arbitration, Interrupts}
use Rattle.vme_model.specs.declared.sources.Reason.{Reason}
use Rattle.vme_model.specs.declared.sources.Reason.TheVariants.{AllDrivers, ThisMoment, RoundRobinLeftOut, GrantsHighAgain, RequestGone, OwnerHasIt, NotWithdrawn, GrantPassedOn, AcknowledgePassedOn, SeenOnItsWire, RequestOver, GrantGone, BoundedTenure, StillRequested, BlocksLeftOut, AddressOffFirst, PipeliningLeftOut, AddressOnlyLeftOut, TimerCountsTime, TimeOfVersionTwo}
use Rattle.vme_model.specs.declared.sources.Source.{Source}
use Rattle.vme_model.specs.declared.sources.Source.TheVariants.{Standard, EachCycle, LeastTime, Profile}
use Rattle.vme_model.specs.declared.sources.Sourced.{Sourced}
use Rattle.vme_model.specs.declared.signals.Wire.{Wire}
use Rattle.vme_model.specs.declared.signals.Wire.TheVariants.{Bg, Bclr, Iack, Berr, Br, BgOut, Bbsy, Addr, AddressStrobe, DataStrobe, Irq, IackOut, Dtack}
use Rattle.vme_model.specs.Sentences.{rule_named}

-- why a condition is not the standard's
abbrev pub reason_text : Reason → List ℕ
reason_text AllDrivers = codes "the standard does not ask for all four"
reason_text ThisMoment =
    codes "the policies are chapter 3's; only the moment of the pick is ours"
reason_text RoundRobinLeftOut = codes "BCLR* from an RRS arbiter is left out"
reason_text GrantsHighAgain = codes "bus clear waits until the grants are high again"
reason_text RequestGone = codes "bus clear also ends once no higher request is left"
reason_text OwnerHasIt = codes "the owner does not need to request the bus"
reason_text NotWithdrawn = codes "no request is withdrawn"
reason_text GrantPassedOn = codes "a grant that was passed on cannot be taken"
reason_text AcknowledgePassedOn = codes "an acknowledge that was passed on cannot be answered"
reason_text SeenOnItsWire = codes "the request must be visible on the board's own BR*"
reason_text RequestOver = codes "the owner has ended its own request by then"
reason_text GrantGone = codes "the grant that the owner took has ended by then"
reason_text BoundedTenure = codes "the scenario limits the cycles of a tenure"
reason_text StillRequested = codes "the interrupt is still requested when the cycle begins"
reason_text BlocksLeftOut = codes "block and read-modify-write cycles are left out"
reason_text AddressOffFirst = codes "the address goes off before AS* rises"
reason_text PipeliningLeftOut = codes "address pipelining is left out"
reason_text AddressOnlyLeftOut = codes "address-only cycles are left out"
reason_text TimerCountsTime = codes "the standard's bus timer measures time only"
reason_text TimeOfVersionTwo = codes "it takes the place of a time of version 2"

-- a condition that a chapter asks for
abbrev pub standard : Condition → Chapter → Sourced
standard c n = record { condition = c; source = Standard n }

-- one that chapter 2 asks for in an access, and chapter 4 in an acknowledge
abbrev pub each_cycle : Condition → Sourced
each_cycle c = record { condition = c; source = EachCycle }

-- one that stands for a minimum time of a chapter
abbrev pub least_time : Condition → Chapter → Sourced
least_time c n = record { condition = c; source = LeastTime n }

-- one that is the profile's, and why
abbrev pub profile : Condition → Reason → Sourced
profile c why = record { condition = c; source = Profile why }

-- the conditions of the settling rules
abbrev pub settling_sources : Rule → List Sourced
settling_sources S1 = least_time ChainHigh Interrupts ∷ []
settling_sources S2 = profile NobodyCanAnswer TimerCountsTime ∷ []
settling_sources S3 = profile PassedTheLastBoard TimeOfVersionTwo ∷ []
settling_sources S4 = profile GrantsThrough TimeOfVersionTwo ∷ []
settling_sources r = []

-- of the rules of interrupters
abbrev pub interrupters_sources : Rule → List Sourced
interrupters_sources G21 = []
interrupters_sources G22 = standard Served Interrupts ∷ []
interrupters_sources G23 =
    standard AcknowledgeInLow Interrupts ∷ standard OwnDtackHigh Interrupts
    ∷ standard DataStrobeLow Interrupts ∷ standard NotPending Interrupts
    ∷ standard AcknowledgeShown Interrupts ∷ []
interrupters_sources G24 = standard AddressStrobeHigh Interrupts ∷ []
interrupters_sources G25 =
    each_cycle DataStrobeLow ∷ standard AddressStrobeLow DataTransfer
    ∷ standard AcknowledgeInLow Interrupts ∷ profile OwnAcknowledgeOutHigh AcknowledgePassedOn
    ∷ standard Pending Interrupts ∷ standard OwnSlotShown DataTransfer
    ∷ standard CycleShown DataTransfer ∷ []
interrupters_sources G26 = standard DataStrobeHigh DataTransfer ∷ []
interrupters_sources r = settling_sources r

-- of the rules of masters
abbrev pub masters_sources : Rule → List Sourced
masters_sources G15 =
    standard OwnBusyLow Arbitration ∷ standard AddressStrobeHigh DataTransfer
    ∷ profile WithinBurst BoundedTenure ∷ standard Handled Interrupts
    ∷ profile InterruptLow StillRequested ∷ []
masters_sources G16 =
    standard OwnAddressOn DataTransfer ∷ standard AddressStrobeHigh DataTransfer ∷ []
masters_sources G17 =
    standard OwnAddressStrobeLow DataTransfer ∷ standard OwnAddressOn DataTransfer
    ∷ standard DtackHigh DataTransfer ∷ standard BerrHigh DataTransfer
    ∷ profile NotStrobed BlocksLeftOut ∷ []
masters_sources G18 = standard Answered DataTransfer ∷ []
masters_sources G19 =
    profile OwnAddressStrobeLow AddressOffFirst ∷ profile OwnDataStrobeHigh PipeliningLeftOut
    ∷ profile Strobed AddressOnlyLeftOut ∷ []
masters_sources G20 = profile OwnAddressOff AddressOffFirst ∷ []
masters_sources r = interrupters_sources r

-- of the rules of requesters
abbrev pub requesters_sources : Rule → List Sourced
requesters_sources G9 = profile OwnBusyHigh OwnerHasIt ∷ []
requesters_sources G10 = profile OwnBusyLow NotWithdrawn ∷ []
requesters_sources G11 =
    standard GrantInLow Arbitration ∷ standard OwnRequestHigh Arbitration
    ∷ standard OwnBusyHigh Arbitration ∷ []
requesters_sources G12 = standard GrantInHigh Arbitration ∷ []
requesters_sources G13 =
    standard GrantInLow Arbitration ∷ profile OwnGrantOutHigh GrantPassedOn
    ∷ profile OwnRequestLow SeenOnItsWire ∷ []
requesters_sources G14 =
    profile OwnRequestHigh RequestOver ∷ profile GrantInHigh GrantGone
    ∷ standard AddressFree Arbitration ∷ standard Asked Arbitration ∷ []
requesters_sources r = masters_sources r

-- the conditions of a rule, in the order of its guard, each with its source; none of E1, E2 and E5,
-- which ask nothing of a bus
abbrev pub sources : Rule → List Sourced
sources G1 =
    profile GrantsHigh AllDrivers ∷ standard BusyHigh Arbitration ∷ profile Picked ThisMoment ∷ []
sources G2 = standard BusyLow Arbitration ∷ []
sources G3 =
    profile ArbiterIsPri RoundRobinLeftOut ∷ standard BusyLow Arbitration
    ∷ profile GrantsHigh GrantsHighAgain ∷ standard HigherAsked Arbitration ∷ []
sources G4 = profile ClearNotDue RequestGone ∷ []
sources G5 =
    standard AddressStrobeLow Interrupts ∷ standard DataStrobeLow Interrupts
    ∷ standard AcknowledgeShown Interrupts ∷ []
sources G6 = standard AddressStrobeHigh Interrupts ∷ []
sources G7 = standard DataStrobeLow DataTransfer ∷ standard DtackHigh DataTransfer ∷ []
sources G8 = standard DataStrobeHigh DataTransfer ∷ []
sources r = requesters_sources r

-- the rules whose conditions are of the first version alone
abbrev pub is_first_versions : Rule → Bool
is_first_versions G2 = true
is_first_versions G10 = true
is_first_versions _ = false

-- whether two conditions are the same
abbrev pub is_same_condition : Condition → Condition → Bool
is_same_condition = sameb the_type

abbrev pub is_profile_source : Source → Bool
is_profile_source (Profile why) = true
is_profile_source _ = false

-- a condition of a rule is the profile's
abbrev pub is_profile : Rule → Condition → Bool
is_profile r c =
    list_any (λ s. is_same_condition s.condition c && is_profile_source s.source) (sources r)

-- the edge rule of a fall (`true`) or a rise of a wire: that of the table of guards
abbrev pub rule_of : Wire → Bool → Rule
rule_of (Bg n) true = G1
rule_of (Bg n) false = G2
rule_of Bclr true = G3
rule_of Bclr false = G4
rule_of Iack true = G5
rule_of Iack false = G6
rule_of Berr true = G7
rule_of Berr false = G8
rule_of Br true = G9
rule_of Br false = G10
rule_of BgOut true = G11
rule_of BgOut false = G12
rule_of Bbsy true = G13
rule_of Bbsy false = G14
rule_of Addr true = G15
rule_of Addr false = G19
rule_of AddressStrobe true = G16
rule_of AddressStrobe false = G20
rule_of DataStrobe true = G17
rule_of DataStrobe false = G18
rule_of Irq true = G21
rule_of Irq false = G22
rule_of IackOut true = G23
rule_of IackOut false = G24
rule_of Dtack true = G25
rule_of Dtack false = G26

-- its settling rule, if there is one
abbrev pub settling_of : Wire → Bool → Option Rule
settling_of AddressStrobe true = Some S1
settling_of Berr true = Some S2
settling_of (Bg n) false = Some S3
settling_of (Bg n) true = Some S4
settling_of _ _ = None

-- a condition that is tested for an edge is the profile's: in the edge rule, or in the settling
-- rule
abbrev pub is_ours : Wire → Bool → Condition → Bool
is_ours w fall c =
    is_profile (rule_of w fall) c || option_map_or (λ r. is_profile r c) (settling_of w fall) false

-- a condition is one of a rule
abbrev pub has_condition : Rule → Condition → Bool
has_condition r c = list_any (λ s. is_same_condition s.condition c) (sources r)

-- the mark of a condition that is the profile's
abbrev pub profile_mark : Bool → List ℕ
profile_mark ours = if ours then codes " (profile)" else []

-- the edge rule of a number
abbrev pub edge_rule : ℕ → Option Rule
edge_rule k = rule_named (codes "G" ++ decimal k)
