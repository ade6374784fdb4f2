-- The rules of edges: the guards, each with its source and its reason, and one table of them.
-- (Chapters 2 to 4, and this project's profile.)
use Rattle.std.specs.Prelude.{◌==◌, ◌&&◌, ◌||◌, ◌+◌, ◌-◌, ◌%◌, ℕ, Bool, true, false, not, Option, Some, None, List, [], ◌∷◌, nat_lt, nat_le, find}
use Rattle.std.specs.List.{list_any, list_all}
use Rattle.std.specs.Option.{option_map_or, option_and_then}
use Rattle.vme_model.specs.declared.boards.Release.{Release}
use Rattle.vme_model.specs.declared.boards.Release.TheVariants.{Done, Request}
use Rattle.vme_model.specs.declared.boards.ArbiterKind.{ArbiterKind}
use Rattle.vme_model.specs.declared.boards.ArbiterKind.TheVariants.{Sgl, Pri, Rrs}
use Rattle.vme_model.specs.declared.conditions.Condition.{Condition}
use Rattle.vme_model.specs.declared.conditions.Condition.TheVariants.{GrantsHigh, Picked, ArbiterIsPri, HigherAsked, ClearNotDue, BusyHigh, BusyLow, AddressStrobeHigh, AddressStrobeLow, DataStrobeHigh, DataStrobeLow, DtackHigh, BerrHigh, Answered, AcknowledgeShown, CycleShown, OwnSlotShown, GrantInHigh, GrantInLow, AcknowledgeInLow, OwnRequestHigh, OwnRequestLow, OwnGrantOutHigh, OwnBusyHigh, OwnBusyLow, OwnAddressOn, OwnAddressOff, AddressFree, OwnAddressStrobeLow, OwnDataStrobeHigh, OwnAcknowledgeOutHigh, OwnDtackHigh, Asked, WithinBurst, Handled, InterruptLow, Strobed, NotStrobed, Served, Pending, NotPending}
use Rattle.vme_model.specs.declared.signals.Version.{Version}
use Rattle.vme_model.specs.declared.signals.Wire.{Wire}
use Rattle.vme_model.specs.declared.signals.Wire.TheVariants.{Bg, Bclr, Iack, Berr, Br, BgOut, Bbsy, Addr, AddressStrobe, DataStrobe, Irq, IackOut, Dtack}
use Rattle.vme_model.specs.declared.signals.Cycle.{Cycle}
use Rattle.vme_model.specs.declared.signals.Cycle.TheVariants.{Acknowledge, Access}
use Rattle.vme_model.specs.Signals.{is_two, is_acknowledge}
use Rattle.vme_model.specs.Sets.{has_level}
use Rattle.vme_model.specs.Readings.{Readings, is_pending}
use Rattle.vme_model.specs.Guards.{Guard, free, asks, ◌⊓◌, unless, holds, failed}

-- the levels of BR0* to BR3*, of which BR3* is highest (chapter 3)
abbrev pub bus_numbers : List ℕ
bus_numbers = 0 ∷ 1 ∷ 2 ∷ 3 ∷ []

-- no low line is of a higher level
abbrev pub is_highest : (ℕ → Bool) → ℕ → Bool
is_highest low n = list_all (λ m. not (low m) || nat_le m n) bus_numbers

-- the place of a level in the round that begins below the level last granted, and wraps from 0 to 3
-- (chapter 3)
abbrev pub round_place : ℕ → ℕ → ℕ
round_place last n = (last + 3 - n) % 4

-- no low line comes before this one in the round
abbrev pub is_next : (ℕ → Bool) → ℕ → ℕ → Bool
is_next low last n =
    list_all (λ m. not (low m) || nat_le (round_place last n) (round_place last m)) bus_numbers

-- the level is the policy's pick of the low lines: SGL serves level 3 alone, PRI the highest, RRS
-- the next in the round (chapter 3)
abbrev pub is_pick : ArbiterKind → (ℕ → Bool) → ℕ → ℕ → Bool
is_pick Sgl low last n = n == 3 && low 3
is_pick Pri low last n = low n && is_highest low n
is_pick Rrs low last n = low n && is_next low last n

-- the levels that a policy serves at all: SGL level 3 alone (chapter 3). (`serves` of History
-- speaks of interrupters instead.)
abbrev pub serves : ArbiterKind → ℕ → Bool
serves Sgl n = n == 3
serves Pri n = true
serves Rrs n = true

-- the policy's pick, if it has one
abbrev pub pick : ArbiterKind → (ℕ → Bool) → ℕ → Option ℕ
pick kind low last = find (is_pick kind low last) bus_numbers

-- a priority arbiter (chapter 3)
abbrev pub is_pri : ArbiterKind → Bool
is_pri Pri = true
is_pri _ = false

-- every grant of the controller is high
abbrev pub are_grants_high : Readings → Bool
are_grants_high r = list_all (λ n. not (r.own (Bg n))) bus_numbers

-- The guards, each over what it reads. A wire or a line is given by whether it is low, the address
-- group by whether it is on. Above each stand whose guard it is, and why. A chapter is one of the
-- standard, whose sentence the guard renders; the standard speaks of times, and the guard does not.
-- *Profile* is this project's own. G1 to G8 are the controller's.

-- G1, the pick: chapter 3; grants and BBSY* high, one grant at a time and none to a bus that has an
-- owner: profile
abbrev pub bg_falls : Bool → Bool → Bool → Guard
bg_falls are_high bbsy is_picked =
    asks GrantsHigh are_high ⊓ asks BusyHigh (not bbsy) ⊓ asks Picked is_picked

-- G2, profile: a grant stands until somebody has taken it, but in version 2 it may time out
abbrev pub bg_rises : Version → Bool → Guard
bg_rises version bbsy = unless (is_two version) (asks BusyLow bbsy)

-- G3, chapter 3: the owner is asked to make room for a higher level; once the grants are high
-- again: profile
abbrev pub bclr_falls : Bool → Bool → Bool → Bool → Guard
bclr_falls has_priority bbsy are_high is_outranked =
    asks ArbiterIsPri has_priority ⊓ asks BusyLow bbsy ⊓ asks GrantsHigh are_high
    ⊓ asks HigherAsked is_outranked

-- G4, profile: bus clear stays low as long as its reason lasts
abbrev pub bclr_rises : Bool → Guard
bclr_rises is_due = asks ClearNotDue (not is_due)

-- G5, chapter 4: the controller starts the daisy chain of the acknowledge that is shown
abbrev pub iack_falls : Bool → Bool → Bool → Guard
iack_falls address_strobe data_strobe is_acknowledged =
    asks AddressStrobeLow address_strobe ⊓ asks DataStrobeLow data_strobe
    ⊓ asks AcknowledgeShown is_acknowledged

-- G6, chapter 4: the chain stays low as long as the cycle
abbrev pub iack_rises : Bool → Guard
iack_rises address_strobe = asks AddressStrobeHigh (not address_strobe)

-- G7, chapter 2: the bus timer ends a cycle that nobody answers
abbrev pub berr_falls : Bool → Bool → Guard
berr_falls data_strobe dtack = asks DataStrobeLow data_strobe ⊓ asks DtackHigh (not dtack)

-- G8, chapter 2: the error stands until the master has seen it
abbrev pub berr_rises : Bool → Guard
berr_rises data_strobe = asks DataStrobeHigh (not data_strobe)

-- G9, profile: the owner does not request what it has
abbrev pub br_falls : Bool → Guard
br_falls bbsy = asks OwnBusyHigh (not bbsy)

-- G10, profile: a request stays until it is met, but in version 2 it may be withdrawn
abbrev pub br_rises : Version → Bool → Guard
br_rises version bbsy = unless (is_two version) (asks OwnBusyLow bbsy)

-- G11, chapter 3: a board that does not want the grant passes it on
abbrev pub bgout_falls : Bool → Bool → Bool → Guard
bgout_falls grant_in br bbsy =
    asks GrantInLow grant_in ⊓ asks OwnRequestHigh (not br) ⊓ asks OwnBusyHigh (not bbsy)

-- G12, profile: the chain rises from its beginning onward
abbrev pub bgout_rises : Bool → Guard
bgout_rises grant_in = asks GrantInHigh (not grant_in)

-- G13, chapter 3: a board that requests the bus takes the grant that reaches it; own request and
-- own output, since a grant that was passed on is lost: profile
abbrev pub bbsy_falls : Bool → Bool → Bool → Guard
bbsy_falls grant_in bgout br =
    asks GrantInLow grant_in ⊓ asks OwnGrantOutHigh (not bgout) ⊓ asks OwnRequestLow br

-- G14's last condition, chapter 3: RWD waits for nothing, ROR for a low BR line
abbrev pub released : Bool → Release → Guard
released is_asked (Done burst) = free
released is_asked Request = asks Asked is_asked

-- G14, chapter 3: the bus is given up during the last transfer, and with ROR once another board
-- requests it; own request and input high, so that no old grant is left: profile
abbrev pub bbsy_rises : Bool → Bool → Bool → Guard → Guard
bbsy_rises br grant_in is_address_free releasing =
    asks OwnRequestHigh (not br) ⊓ asks GrantInHigh (not grant_in)
    ⊓ asks AddressFree is_address_free ⊓ releasing

-- G15's third condition, profile: with RWD fewer cycles than the burst, so that a tenure ends; ROR
-- has no bound
abbrev pub below_burst : ℕ → Release → Guard
below_burst cycles (Done burst) = asks WithinBurst (nat_lt cycles burst)
below_burst cycles Request = free

-- G15's last conditions: an acknowledge is of a level that the board handles (chapter 4) and whose
-- line is low (profile), so that a master acknowledges only what is requested of it
abbrev pub shows : (ℕ → Bool) → (ℕ → Bool) → Option Cycle → Guard
shows handles irq (Some (Acknowledge level)) =
    asks Handled (handles level) ⊓ asks InterruptLow (irq level)
shows handles irq _ = free

-- G15, chapter 2: a new owner waits for the end of the last cycle; chapter 4: the level is its own;
-- burst and a low IRQ line: profile
abbrev pub addr_goes_on : Bool → Bool → Guard → Guard → Guard
addr_goes_on bbsy address_strobe bursting showing =
    asks OwnBusyLow bbsy ⊓ asks AddressStrobeHigh (not address_strobe) ⊓ bursting ⊓ showing

-- G16, chapter 2: the strobe says that the address is good
abbrev pub as_falls : Bool → Bool → Guard
as_falls addr address_strobe = asks OwnAddressOn addr ⊓ asks AddressStrobeHigh (not address_strobe)

-- G17, chapter 2: not while the last answer is still there; one strobe a cycle: profile
abbrev pub ds_falls : Bool → Bool → Bool → Bool → Bool → Guard
ds_falls own_strobe addr dtack berr has_strobed =
    asks OwnAddressStrobeLow own_strobe ⊓ asks OwnAddressOn addr ⊓ asks DtackHigh (not dtack)
    ⊓ asks BerrHigh (not berr) ⊓ asks NotStrobed (not has_strobed)

-- G18, chapter 2: the strobe stands until it is answered
abbrev pub ds_rises : Bool → Bool → Guard
ds_rises dtack berr = asks Answered (dtack || berr)

-- G19, profile: the address goes off once its one transfer is over
abbrev pub addr_goes_off : Bool → Bool → Bool → Guard
addr_goes_off own_strobe own_data_strobe has_strobed =
    asks OwnAddressStrobeLow own_strobe ⊓ asks OwnDataStrobeHigh (not own_data_strobe)
    ⊓ asks Strobed has_strobed

-- G20, profile: the next owner drives the address as soon as AS* is high, so this board's address
-- is off by then
abbrev pub as_rises : Bool → Guard
as_rises addr = asks OwnAddressOff (not addr)

-- G21, chapter 4: an interrupt may come at any time
abbrev pub irq_falls : Guard
irq_falls = free

-- G22, chapter 4: the request stands until it was served in its own way
abbrev pub irq_rises : Bool → Guard
irq_rises is_served = asks Served is_served

-- G23's last condition, chapter 4: an acknowledge is shown that the board does not answer
abbrev pub passes : (ℕ → Bool) → Option Cycle → Guard
passes pending (Some (Acknowledge level)) = asks NotPending (not (pending level))
passes pending _ = asks AcknowledgeShown false

-- G23, chapter 4: a board with nothing pending at this level passes the acknowledge on
abbrev pub iackout_falls : Bool → Bool → Bool → Guard → Guard
iackout_falls iack_in dtack data_strobe passing =
    asks AcknowledgeInLow iack_in ⊓ asks OwnDtackHigh (not dtack) ⊓ asks DataStrobeLow data_strobe
    ⊓ passing

-- G24, chapter 4: the chain stays low as long as the cycle
abbrev pub iackout_rises : Bool → Guard
iackout_rises address_strobe = asks AddressStrobeHigh (not address_strobe)

-- G25's last conditions: an acknowledge that reached the board while it is pending (chapter 4), or
-- an access to its slot (chapter 2)
abbrev pub answers : Bool → Bool → (ℕ → Bool) → (ℕ → Bool) → Option Cycle → Guard
answers iack_in iackout pending is_own (Some (Acknowledge level)) =
    asks AcknowledgeInLow iack_in ⊓ asks OwnAcknowledgeOutHigh (not iackout)
    ⊓ asks Pending (pending level)
answers iack_in iackout pending is_own (Some (Access s)) = asks OwnSlotShown (is_own s)
answers iack_in iackout pending is_own None = asks CycleShown false

-- G25, chapter 4: the first pending board that is reached answers; chapter 2: a register answers
-- for its slot; that each board has one: profile
abbrev pub dtack_falls : Bool → Bool → Guard → Guard
dtack_falls data_strobe address_strobe answering =
    asks DataStrobeLow data_strobe ⊓ asks AddressStrobeLow address_strobe ⊓ answering

-- G26, chapter 2: the answer stands until the master has seen it
abbrev pub dtack_rises : Bool → Guard
dtack_rises data_strobe = asks DataStrobeHigh (not data_strobe)

-- The guards over the record of all that a rule may read. Their conditions are those above.

-- a PRI arbiter has the bus cleared for a request above the level last granted
abbrev pub clear_guard : Readings → Guard
clear_guard r =
    bclr_falls (is_pri r.arbiter) r.bbsy (are_grants_high r)
    (list_any (λ m. nat_lt r.last_level m && r.request m) bus_numbers)

abbrev pub is_bus_clear_due : Readings → Bool
is_bus_clear_due r = holds (clear_guard r)

abbrev pub is_asked : Readings → Release → Bool
is_asked r release = holds (released (list_any r.request bus_numbers) release)

-- the board's requester may give up the bus; a board without a requester has no condition here
abbrev pub release_guard : Readings → Guard
release_guard r =
    option_map_or (λ q. released (list_any r.request bus_numbers) q.release)
    (option_and_then (λ b. b.requester) r.board) free

abbrev pub may_release : Readings → Bool
may_release r = holds (release_guard r)

abbrev pub is_below_burst : ℕ → Release → Bool
is_below_burst cycles release = holds (below_burst cycles release)

-- the board may begin one more cycle in this tenure
abbrev pub burst_guard : Readings → Guard
burst_guard r =
    option_map_or (λ q. below_burst r.cycles q.release)
    (option_and_then (λ b. b.requester) r.board) free

abbrev pub is_within_burst : Readings → Bool
is_within_burst r = holds (burst_guard r)

-- the board may show this cycle
abbrev pub show_guard : Readings → Option Cycle → Guard
show_guard r v =
    shows (λ level. option_map_or (λ b. has_level b.handler level) r.board false) r.irq v

abbrev pub may_show : Readings → Option Cycle → Bool
may_show r v = holds (show_guard r v)

-- the board passes the acknowledge on
abbrev pub pass_guard : Readings → Option Cycle → Guard
pass_guard r v = passes (is_pending r) v

abbrev pub is_passed_by : Readings → Option Cycle → Bool
is_passed_by r v = holds (pass_guard r v)

-- the board answers what is shown
abbrev pub answer_guard : Readings → Option Cycle → Guard
answer_guard r v =
    answers r.iack_in (r.own IackOut) (is_pending r)
    (λ s. option_map_or (λ b. b.slot == s) r.board false) v

abbrev pub may_answer : Readings → Option Cycle → Bool
may_answer r v = holds (answer_guard r v)

-- The table: the number of the rule that names a wire and a direction, and its guard, whose source
-- and reason stand above it. `true` is a fall, or the address group going on; `v` is what the group
-- then shows.
abbrev pub guard : Version → Readings → Wire → Bool → Option Cycle → ℕ × Guard
guard version r (Bg n) true v =
    (1, bg_falls (are_grants_high r) r.bbsy (is_pick r.arbiter r.request r.last_level n))
guard version r (Bg n) false v = (2, bg_rises version r.bbsy)
guard version r Bclr true v = (3, clear_guard r)
guard version r Bclr false v = (4, bclr_rises (is_bus_clear_due r))
guard version r Iack true v =
    (5, iack_falls r.address_strobe r.data_strobe (is_acknowledge r.shown))
guard version r Iack false v = (6, iack_rises r.address_strobe)
guard version r Berr true v = (7, berr_falls r.data_strobe r.dtack)
guard version r Berr false v = (8, berr_rises r.data_strobe)
guard version r Br true v = (9, br_falls (r.own Bbsy))
guard version r Br false v = (10, br_rises version (r.own Bbsy))
guard version r BgOut true v = (11, bgout_falls r.grant_in (r.own Br) (r.own Bbsy))
guard version r BgOut false v = (12, bgout_rises r.grant_in)
guard version r Bbsy true v = (13, bbsy_falls r.grant_in (r.own BgOut) (r.own Br))
guard version r Bbsy false v = (
  14,
  bbsy_rises (r.own Br) r.grant_in (not (r.own Addr) || r.own AddressStrobe)
      (release_guard r),
)
guard version r Addr true v =
    (15, addr_goes_on (r.own Bbsy) r.address_strobe (burst_guard r) (show_guard r v))
guard version r AddressStrobe true v = (16, as_falls (r.own Addr) r.address_strobe)
guard version r DataStrobe true v =
    (17, ds_falls (r.own AddressStrobe) (r.own Addr) r.dtack r.berr r.has_strobed)
guard version r DataStrobe false v = (18, ds_rises r.dtack r.berr)
guard version r Addr false v =
    (19, addr_goes_off (r.own AddressStrobe) (r.own DataStrobe) r.has_strobed)
guard version r AddressStrobe false v = (20, as_rises (r.own Addr))
guard version r Irq true v = (21, irq_falls)
guard version r Irq false v = (22, irq_rises r.served_since_request)
guard version r IackOut true v =
    (23, iackout_falls r.iack_in (r.own Dtack) r.data_strobe (pass_guard r r.shown))
guard version r IackOut false v = (24, iackout_rises r.address_strobe)
guard version r Dtack true v =
    (25, dtack_falls r.data_strobe r.address_strobe (answer_guard r r.shown))
guard version r Dtack false v = (26, dtack_rises r.data_strobe)

-- the number of the rule that names a wire and a direction, and whether its guard holds
abbrev pub rule : Version → Readings → Wire → Bool → Option Cycle → ℕ × Bool
rule version r w fall v = ((guard version r w fall v).0, holds (guard version r w fall v).1)

-- the conditions of the rule that fail before an edge, in the order of its guard
abbrev pub failing : Version → Readings → Wire → Bool → Option Cycle → List Condition
failing version r w fall v = failed (guard version r w fall v).1
