use Rattle.std.proofs.Common.{◌∙◌}
use Rattle.vme_model.specs.declared.signals.Driver.TheVariants.{Slot}
use Rattle.vme_model.specs.Readings.{readings}
use Rattle.vme_bus.proofs.Asked.{asks_for, has_board, near_slot, asked_so}
use Rattle.vme_bus.proofs.Parts.{masters_of, master_alone}
use Rattle.vme_bus.proofs.states.BusState.ask_master.Goals as goal

pub master_rule-ruled-requires : goal.master_rule-ruled-requires
master_rule-ruled-requires c = near_slot c.in-Slot.slot c.args.edge c.in-Slot.is c.requires.formed

pub returns-in-Slot : goal.returns-in-Slot
returns-in-Slot c version p h is exists =
    let s = c.in-Slot.slot in
    let e = c.args.edge in
    let o = has_board p s e c.in-Slot.is exists in
    let k = asks_for p s o.0 e o.1 c.in-Slot.is exists in
    c.asked.ensures
    ∙ asked_so version p h (Slot s) e _ _ _ c.in-Slot.is
    (c.is_slot_low.ensures (near_slot s e c.in-Slot.is c.requires.formed) version p h is)
    (c.master_rule-ruled.ensures.number version (readings p h (Slot s)) e.value c.requires.part)
    (c.master_rule-ruled.ensures.answer version p h o.0 is o.1 c.requires.part (masters_of e.wire o.0 c.requires.part k.drives) k.value)

pub returns-in-Controller : goal.returns-in-Controller
returns-in-Controller c version p h is exists = absurd (master_alone c.args.edge c.in-Controller.is c.requires.part c.requires.formed)
