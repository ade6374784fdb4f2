-- What a driver is offered, without the end of the trace.
use Rattle.std.specs.Prelude.{Bool, List, [], ◌∷◌, filter, is_ok}
use Rattle.std.specs.List.{flat_map}
use Rattle.vme_model.specs.declared.signals.Version.{Version}
use Rattle.vme_model.specs.declared.signals.Driver.{Driver}
use Rattle.vme_model.specs.declared.signals.Wire.{Wire}
use Rattle.vme_model.specs.declared.signals.Wire.TheVariants.{Br, BgOut, Bbsy, Addr, AddressStrobe, DataStrobe, Irq, IackOut, Dtack}
use Rattle.vme_model.specs.declared.signals.Edge.{Edge}
use Rattle.vme_model.specs.Plan.{Plan}
use Rattle.vme_model.specs.Verdict.{verdict_but_full}
use Rattle.vme_model.specs.Offers.{considered, wires}

-- the rules allow the edge
abbrev pub is_open : Version → Plan → List Edge → Edge → Bool
is_open version p h e = is_ok (verdict_but_full version p h e)

-- of the edges considered for these wires, those that the rules allow
abbrev pub offered_on : Version → Plan → List Edge → Driver → List Wire → List Edge
offered_on version p h d ws = filter (is_open version p h) (flat_map (considered p h d) ws)

abbrev pub offered_but_full : Version → Plan → List Edge → Driver → List Edge
offered_but_full version p h d = offered_on version p h d (wires d)

-- the wires of a board's parts
abbrev pub requester_wires : List Wire
requester_wires = Br ∷ BgOut ∷ Bbsy ∷ []

abbrev pub master_wires : List Wire
master_wires = Addr ∷ AddressStrobe ∷ DataStrobe ∷ []

abbrev pub interrupter_wires : List Wire
interrupter_wires = Irq ∷ IackOut ∷ Dtack ∷ []
