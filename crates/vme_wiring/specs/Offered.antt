-- What a driver is offered, but for the end of the trace, and what shows that a part of a board waits.
use Rattle.std.specs.Prelude.{◌&&◌, not, ◌==◌, ℕ, Bool, true, false, Option, Some, List, [], ◌∷◌, filter, is_ok}
use Rattle.std.specs.List.{flat_map}
use Rattle.std.specs.Option.{option_map_or}
use Rattle.vme_model.specs.declared.signals.Version.{Version}
use Rattle.vme_model.specs.declared.signals.Driver.{Driver}
use Rattle.vme_model.specs.declared.signals.Wire.{Wire}
use Rattle.vme_model.specs.declared.signals.Wire.TheVariants.{Br, BgOut, Bbsy, Addr, AddressStrobe, DataStrobe, Irq, IackOut, Dtack}
use Rattle.vme_model.specs.declared.signals.Cycle.{Cycle}
use Rattle.vme_model.specs.declared.signals.Cycle.TheVariants.{Access}
use Rattle.vme_model.specs.declared.signals.Edge.{Edge}
use Rattle.vme_model.specs.Signals.{is_two}
use Rattle.vme_model.specs.Plan.{Plan, grant_chain}
use Rattle.vme_model.specs.Verdict.{verdict_but_full}
use Rattle.vme_model.specs.Offers.{considered, wires}
use Rattle.vme_chain.specs.Segments.{input}
use Rattle.vme_wiring.specs.Boards.{low_of}
use Rattle.vme_wiring.specs.Chained.{chain_at}
use Rattle.vme_wiring.specs.declared.boards.Board.{Board}
use Rattle.vme_wiring.specs.declared.wirings.Wiring.{Wiring}

-- the rules allow the edge
abbrev pub is_open : Version → Plan → List Edge → Edge → Bool
is_open version p h e = is_ok (verdict_but_full version p h e)

-- of the edges of these wires that are considered, those that the rules allow
abbrev pub offered_on : Version → Plan → List Edge → Driver → List Wire → List Edge
offered_on version p h d ws = filter (is_open version p h) (flat_map (considered p h d) ws)

abbrev pub offered_but_full : Version → Plan → List Edge → Driver → List Edge
offered_but_full version p h d = offered_on version p h d (wires d)

-- the wires of a board's parts
abbrev pub requester_wires : List Wire
requester_wires = Br ∷ BgOut ∷ Bbsy ∷ []

abbrev pub master_wires : List Wire
master_wires = Addr ∷ AddressStrobe ∷ DataStrobe ∷ []

abbrev pub interrupter_wires : List Wire
interrupter_wires = Irq ∷ IackOut ∷ Dtack ∷ []

-- the board requests the bus, as it may not withdraw, and no grant has reached it
abbrev pub waits_for_grant : Wiring → Board → Bool
waits_for_grant w b =
    option_map_or (λ q. not (is_two w.version) && low_of b Br && not (low_of b BgOut) && not (low_of b Bbsy) && not (input (chain_at (grant_chain q.level) w.chains) b.row.slot)) b.row.requester true

-- the board does not hold the bus, and its address group and strobes are off
abbrev pub waits_for_bus : Board → Bool
waits_for_bus b = not (low_of b Bbsy) && not (low_of b Addr) && not (low_of b AddressStrobe) && not (low_of b DataStrobe)

-- what is shown is an access to the slot
abbrev pub is_access_to : ℕ → Option Cycle → Bool
is_access_to s (Some (Access t)) = s == t
is_access_to s _ = false

-- the board answers nothing, no access to it is shown, and no acknowledge is at its interrupter, if it has one
abbrev pub waits_for_cycle : Wiring → Board → Bool
waits_for_cycle w b =
    not (low_of b Dtack) && not (is_access_to b.row.slot w.shared.shown)
    && option_map_or (λ i. not (low_of b IackOut) && not (input w.chains.iack b.row.slot)) b.row.interrupter true
