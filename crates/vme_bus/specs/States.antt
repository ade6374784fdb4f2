-- Which numbers a history leads to.
use Rattle.std.specs.Prelude.{◌≡◌, ◌<◌, ℕ, Some, List, length, get_or, min}
use Rattle.std.specs.Option.{option_map_or}
use Rattle.vme_model.specs.declared.boards.Row.{Row}
use Rattle.vme_model.specs.declared.signals.Version.{Version}
use Rattle.vme_model.specs.declared.signals.Edge.{Edge}
use Rattle.vme_model.specs.declared.signals.Driver.TheVariants.{Controller, Slot}
use Rattle.vme_model.specs.declared.signals.Wire.{Wire}
use Rattle.vme_model.specs.declared.signals.Wire.TheVariants.{Bg, Bclr, Iack, Berr, Br, BgOut, Bbsy, Addr, AddressStrobe, DataStrobe, Irq, IackOut, Dtack}
use Rattle.vme_model.specs.Plan.{Plan, board}
use Rattle.vme_model.specs.Accepted.{IsAccepted}
use Rattle.vme_model.specs.History.{drive, shown, addressing, cycles, has_strobed, last_level}
use Rattle.vme_model.specs.Readings.{grant_in, iack_in, is_served}
use Rattle.vme_model.specs.Verdict.{IsLegal}
use Rattle.vme_master.specs.Local.{most_cycles}
use Rattle.vme_bus.specs.declared.sets.SlotSet.{SlotSet}
use Rattle.vme_bus.specs.declared.states.BusState.{BusState}
use Rattle.vme_bus.specs.Sets.{has}
use Rattle.vme_bus.specs.Records.{version_in, kind_in, cycle_in, slot_in}
use Rattle.vme_bus.specs.Layouts.{IsLayoutOf, grant_head, acknowledge_head}

-- a set holds the slots whose wire is low, or whose address group is on
abbrev pub HoldsWire : List Edge → Wire → SlotSet → Type 0
HoldsWire h w set = (s : ℕ) → has set s ≡ drive h (Slot s) w

-- a set holds the slots below 22 whose wire is low, whatever stands behind them
abbrev pub HoldsOutputs : List Edge → Wire → SlotSet → Type 0
HoldsOutputs h w set = (s : ℕ) → s < 22 → has set s ≡ drive h (Slot s) w

-- how many cycles of the tenure count, of a board with a requester
abbrev pub counted : Plan → List Edge → ℕ → ℕ
counted p h s =
    option_map_or (λ r. option_map_or (λ q. min (cycles h (Slot s)) (most_cycles q.release))
    r.requester 0) (board p s) 0

-- where BCLR* and BERR* stand among the controller's lines
abbrev pub bus_clear_place : ℕ
bus_clear_place = 0

abbrev pub bus_error_place : ℕ
bus_error_place = 1

pub record IsStateOf (version : Version) (p : Plan) (h : List Edge) (b : BusState) : Type 0 where
  pub accepted : IsAccepted p
  pub legal : IsLegal version p h
  pub rules : version_in b.version ≡ version
  pub layout : IsLayoutOf p b.layout
  pub kind : kind_in b.kind ≡ p.arbiter
  pub last_level : b.last_level ≡ last_level h
  pub bus_clear : has b.controls bus_clear_place ≡ drive h Controller Bclr
  pub bus_error : has b.controls bus_error_place ≡ drive h Controller Berr
  pub br : HoldsWire h Br b.br
  pub bbsy : HoldsWire h Bbsy b.bbsy
  pub addr : HoldsWire h Addr b.addr
  pub address_strobe : HoldsWire h AddressStrobe b.address_strobe
  pub data_strobe : HoldsWire h DataStrobe b.data_strobe
  pub irq : HoldsWire h Irq b.irq
  pub dtack : HoldsWire h Dtack b.dtack
  pub grants : HoldsOutputs h BgOut b.grants
  pub grant_heads : (n : ℕ) → n < 4 → has b.grants (grant_head n) ≡ drive h Controller (Bg n)
  pub acknowledges : HoldsOutputs h IackOut b.acknowledges
  pub acknowledges_head : has b.acknowledges acknowledge_head ≡ drive h Controller Iack
  pub granted : (s : ℕ) → has b.granted s ≡ grant_in p h (Slot s)
  pub acknowledged : (s : ℕ) → has b.acknowledged s ≡ iack_in p h (Slot s)
  pub served : (s : ℕ) → has b.served s ≡ is_served p h (Slot s)
  pub strobed : (s : ℕ) → has b.strobed s ≡ has_strobed h (Slot s)
  pub cycles_room : length b.cycles ≡ 22
  pub cycles : (s : ℕ) → s < 22 → get_or b.cycles s 0 ≡ counted p h s
  pub shown : cycle_in b.shown ≡ shown p h
  pub addressing : slot_in b.addressing ≡ addressing p h

-- what holds of each history that a state is of
abbrev pub OfHistory : BusState → (Version → Plan → List Edge → Type 0) → Type 0
OfHistory b P =
    (version : Version) (p : Plan) (h : List Edge) → IsStateOf version p h b → P version p h

-- what holds of each history that a state is of, and of the board in a slot
abbrev pub OfBoard : BusState → ℕ → (Version → Plan → List Edge → Row → Type 0) → Type 0
OfBoard b s P =
    (version : Version) (p : Plan) (h : List Edge) (r : Row)
    → IsStateOf version p h b → board p s ≡ Some r → P version p h r
