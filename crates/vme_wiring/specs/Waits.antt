-- Which drivers wait for an edge of another driver, by what their rules read.
use Rattle.std.specs.Prelude.{◌&&◌, not, ℕ, Bool, true, false, Option, List}
use Rattle.std.specs.Option.{option_map_or}
use Rattle.vme_model.specs.declared.boards.Row.{Row}
use Rattle.vme_model.specs.declared.pins.Pins.{Pins}
use Rattle.vme_model.specs.declared.signals.Version.{Version}
use Rattle.vme_model.specs.declared.signals.Driver.{Driver}
use Rattle.vme_model.specs.declared.signals.Driver.TheVariants.{Controller, Slot}
use Rattle.vme_model.specs.declared.signals.Wire.{Wire}
use Rattle.vme_model.specs.declared.signals.Wire.TheVariants.{Br, BgOut, Bbsy, Addr, AddressStrobe, DataStrobe, Irq, IackOut, Dtack}
use Rattle.vme_model.specs.declared.signals.Cycle.{Cycle}
use Rattle.vme_model.specs.declared.signals.Edge.{Edge}
use Rattle.vme_model.specs.Signals.{is_two}
use Rattle.vme_model.specs.Plan.{Plan, board}
use Rattle.vme_model.specs.Readings.{Readings, readings}
use Rattle.vme_histories.specs.Shown.{is_access_to}

-- By its own wires: a requester, if there is one, requests the bus, passes no grant on and does not
-- hold the bus (chapter 3)
abbrev pub is_requester_quiet : (Wire → Bool) → Row → Bool
is_requester_quiet own b =
    option_map_or (λ q. own Br && not (own BgOut) && not (own Bbsy)) b.requester true

-- a board does not hold the bus, and its address group and strobes are off (chapters 2 and 3)
abbrev pub is_master_quiet : (Wire → Bool) → Bool
is_master_quiet own =
    not (own Bbsy) && not (own Addr) && not (own AddressStrobe) && not (own DataStrobe)

-- a board answers nothing, and its interrupter, if there is one, passes no acknowledge on
-- (chapters 2 and 4)
abbrev pub is_interrupter_quiet : (Wire → Bool) → Row → Bool
is_interrupter_quiet own b =
    not (own Dtack) && option_map_or (λ i. not (own IackOut)) b.interrupter true

-- a board is quiet: none of its own wires keeps it from waiting
abbrev pub is_quiet : (Wire → Bool) → Row → Bool
is_quiet own b = is_requester_quiet own b && is_master_quiet own && is_interrupter_quiet own b

-- By what reaches it: a requester, if there is one, may not withdraw, and no grant has reached it
-- (chapter 3)
abbrev pub is_ungranted : Version → Bool → Row → Bool
is_ungranted version grant_in b =
    option_map_or (λ q. not (is_two version) && not grant_in) b.requester true

-- no access to the board is shown, and no acknowledge has reached its interrupter, if it has one
-- (chapters 2 and 4)
abbrev pub is_unaddressed : Option Cycle → Bool → Row → Bool
is_unaddressed cycle iack_in b =
    not (is_access_to b.slot cycle) && option_map_or (λ i. not iack_in) b.interrupter true

-- nothing has reached a board that sees these pins
abbrev pub is_left_alone : Version → Pins → Row → Bool
is_left_alone version seen b =
    is_ungranted version seen.grant_in b && is_unaddressed seen.shown seen.iack_in b

-- By both: a requester, if there is one, waits for its grant
abbrev pub waits_for_grant : Version → Readings → Row → Bool
waits_for_grant version r b = is_requester_quiet r.own b && is_ungranted version r.grant_in b

-- a master waits for the bus
abbrev pub waits_for_bus : Readings → Bool
waits_for_bus r = is_master_quiet r.own

-- a board waits for a cycle that it answers or passes on
abbrev pub waits_for_cycle : Readings → Row → Bool
waits_for_cycle r b = is_interrupter_quiet r.own b && is_unaddressed r.shown r.iack_in b

-- an interrupter, if there is one, requests and has not been served since (chapter 4)
abbrev pub is_unserved : Readings → Row → Bool
is_unserved r b = option_map_or (λ i. r.own Irq && not r.served_since_request) b.interrupter true

-- a board waits if each of its parts does
abbrev pub board_waits : Version → Readings → Row → Bool
board_waits version r b =
    waits_for_grant version r b && waits_for_bus r && (waits_for_cycle r b && is_unserved r b)

-- a driver waits; the controller never does, and a slot without a board always does
abbrev pub is_waiting : Version → Plan → List Edge → Driver → Bool
is_waiting version p h Controller = false
is_waiting version p h (Slot s) =
    option_map_or (board_waits version (readings p h (Slot s))) (board p s) true

-- the parts of a slot's board wait, or there is no board
abbrev pub requester_waits : Version → Plan → List Edge → ℕ → Bool
requester_waits version p h s =
    option_map_or (waits_for_grant version (readings p h (Slot s))) (board p s) true

abbrev pub master_waits : Plan → List Edge → ℕ → Bool
master_waits p h s = option_map_or (λ r. waits_for_bus (readings p h (Slot s))) (board p s) true

abbrev pub interrupter_waits : Plan → List Edge → ℕ → Bool
interrupter_waits p h s =
    option_map_or
    (λ r. waits_for_cycle (readings p h (Slot s)) r && is_unserved (readings p h (Slot s)) r)
    (board p s) true
