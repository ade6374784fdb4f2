-- A state that was given the kind of another.
use Rattle.std.proofs.Common.{◌≡◌, List, get_or, length, sym, ◌∙◌, ap, subst}
use Rattle.vme_model.specs.declared.signals.Version.{Version}
use Rattle.vme_model.specs.declared.signals.Edge.{Edge}
use Rattle.vme_model.specs.Plan.{Plan}
use Rattle.vme_bus.specs.declared.states.BusState.{BusState}
use Rattle.vme_bus.specs.declared.kinds.BusKind.{BusKind}
use Rattle.vme_bus.specs.Sets.{has}
use Rattle.vme_bus.specs.Layouts.{IsLayoutOf, grant_head, acknowledge_head}
use Rattle.vme_bus.specs.Records.{cycle_in, kind_in, slot_in, version_in}
use Rattle.vme_bus.specs.States.{IsStateOf, bus_clear_place, bus_error_place}
use Rattle.vme_bus.specs.Kinds.{kind_of}

-- What says the same of the plan as one state of it, and has the kind of another, is of the histories
-- of that other.
pub kind_given : (version : Version) (p : Plan) (h k : List Edge) (a b n : BusState)
    → n.layout ≡ a.layout → n.kind ≡ a.kind → n.version ≡ a.version → kind_of n ≡ kind_of b
    → IsStateOf version p h a → IsStateOf version p k b → IsStateOf version p k n
kind_given version p h k a b n layout kind rules e ha kb = record {
  accepted = ha.accepted;
  legal = kb.legal;
  rules = ap version_in rules ∙ ha.rules;
  layout = subst (IsLayoutOf p) (sym layout) ha.layout;
  kind = ap kind_in kind ∙ ha.kind;
  last_level = ap (λ (z : BusKind). z.last_level) e ∙ kb.last_level;
  bus_clear = ap (λ (z : BusKind). has z.controls bus_clear_place) e ∙ kb.bus_clear;
  bus_error = ap (λ (z : BusKind). has z.controls bus_error_place) e ∙ kb.bus_error;
  br = λ s. ap (λ (z : BusKind). has z.br s) e ∙ kb.br s;
  bbsy = λ s. ap (λ (z : BusKind). has z.bbsy s) e ∙ kb.bbsy s;
  addr = λ s. ap (λ (z : BusKind). has z.addr s) e ∙ kb.addr s;
  address_strobe = λ s. ap (λ (z : BusKind). has z.address_strobe s) e ∙ kb.address_strobe s;
  data_strobe = λ s. ap (λ (z : BusKind). has z.data_strobe s) e ∙ kb.data_strobe s;
  irq = λ s. ap (λ (z : BusKind). has z.irq s) e ∙ kb.irq s;
  dtack = λ s. ap (λ (z : BusKind). has z.dtack s) e ∙ kb.dtack s;
  grants = λ s lt. ap (λ (z : BusKind). has z.grants s) e ∙ kb.grants s lt;
  grant_heads = λ n lt. ap (λ (z : BusKind). has z.grants (grant_head n)) e ∙ kb.grant_heads n lt;
  acknowledges = λ s lt. ap (λ (z : BusKind). has z.acknowledges s) e ∙ kb.acknowledges s lt;
  acknowledges_head =
      ap (λ (z : BusKind). has z.acknowledges acknowledge_head) e ∙ kb.acknowledges_head;
  granted = λ s. ap (λ (z : BusKind). has z.granted s) e ∙ kb.granted s;
  acknowledged = λ s. ap (λ (z : BusKind). has z.acknowledged s) e ∙ kb.acknowledged s;
  served = λ s. ap (λ (z : BusKind). has z.served s) e ∙ kb.served s;
  strobed = λ s. ap (λ (z : BusKind). has z.strobed s) e ∙ kb.strobed s;
  cycles_room = ap (λ (z : BusKind). length z.cycles) e ∙ kb.cycles_room;
  cycles = λ s lt. ap (λ (z : BusKind). get_or z.cycles s 0) e ∙ kb.cycles s lt;
  shown = ap (λ (z : BusKind). cycle_in z.shown) e ∙ kb.shown;
  addressing = ap (λ (z : BusKind). slot_in z.addressing) e ∙ kb.addressing;
}
