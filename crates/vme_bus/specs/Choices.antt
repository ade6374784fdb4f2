-- Which parts of the boards have no edge to make.
use Rattle.std.specs.Prelude.{◌≡◌, ℕ, List, [], false}
use Rattle.vme_model.specs.declared.signals.Version.{Version}
use Rattle.vme_model.specs.declared.signals.Driver.TheVariants.{Slot}
use Rattle.vme_model.specs.declared.signals.Wire.{Wire}
use Rattle.vme_model.specs.declared.signals.Edge.{Edge}
use Rattle.vme_model.specs.Plan.{Plan}
use Rattle.vme_histories.specs.Offered.{offered_on, requester_wires, master_wires, interrupter_wires}
use Rattle.vme_bus.specs.declared.sets.SlotSet.{SlotSet}
use Rattle.vme_bus.specs.declared.choices.Ready.{Ready}
use Rattle.vme_bus.specs.Sets.{has}

-- of these wires nothing is offered to a slot that the set does not hold
abbrev pub NoneBeside : Version → Plan → List Edge → List Wire → SlotSet → Type 0
NoneBeside version p h ws set =
    (s : ℕ) → has set s ≡ false → offered_on version p h (Slot s) ws ≡ []

-- of each part, the slots where it may be offered something
pub record IsReady (version : Version) (p : Plan) (h : List Edge) (r : Ready) : Type 0 where
  pub requesters : NoneBeside version p h requester_wires r.requesters
  pub masters : NoneBeside version p h master_wires r.masters
  pub interrupters : NoneBeside version p h interrupter_wires r.interrupters
