use Rattle.std.proofs.Common.{◌∙◌, sym, ap}
use Rattle.vme_model.specs.declared.signals.Driver.TheVariants.{Slot}
use Rattle.vme_model.specs.History.{drive}
use Rattle.vme_model.specs.Readings.{readings}
use Rattle.vme_model.specs.Rules.{rule}
use Rattle.vme_bus.proofs.Asked.{by_rule, there, moves, asked_at, equal, unequal}
use Rattle.vme_bus.proofs.states.BusState.asked_by.Goals as goal

pub returns-then-is_slot_low-edge : goal.returns-then-is_slot_low-edge
returns-then-is_slot_low-edge c version p h is driver number answer =
    let s = c.args.slot in
    let e = c.args.edge in
    let low = sym (c.is_slot_low.ensures c.requires version p h is) ∙ equal _ _ c.if-is_slot_low-edge.true in
    there (drive h (Slot s) e.wire) e.fall _ low ∙ asked_at version p h s e driver

pub returns : goal.returns
returns c version p h is driver number answer =
    let s = c.args.slot in
    let e = c.args.edge in
    let low = sym (c.is_slot_low.ensures c.requires version p h is) ∙ unequal _ _ c.if-is_slot_low-edge.false in
    c.allowed.ensures
    ∙ ap (λ n. by_rule n c.args.ruled.1) number
    ∙ ap (λ b. by_rule (rule version (readings p h (Slot s)) e.wire e.fall e.value).0 b) answer
    ∙ moves (drive h (Slot s) e.wire) e.fall _ low
    ∙ asked_at version p h s e driver
