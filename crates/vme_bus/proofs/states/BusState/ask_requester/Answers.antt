use Rattle.std.proofs.Common.{refl, ◌∙◌}
use Rattle.vme_model.specs.declared.signals.Driver.TheVariants.{Slot}
use Rattle.vme_model.specs.Readings.{readings}
use Rattle.vme_model.specs.declared.signals.Part.TheVariants as parts
use Rattle.vme_bus.proofs.Asked.{asks_for, has_board, near_slot, asked_so}
use Rattle.vme_bus.proofs.Parts.{requests_of, board_alone, slot_alone}
use Rattle.vme_bus.proofs.states.BusState.ask_requester.Goals as goal

pub returns : goal.returns
returns c version p h is exists =
    let s = c.number-slot.result in
    let e = c.args.edge in
    let driver = slot_alone e s c.number-slot.ensures (λ alone. board_alone parts.Requester refl e alone c.requires.part c.requires.formed) in
    let o = has_board p s e driver exists in
    let k = asks_for p s o.0 e o.1 driver exists in
    c.asked.ensures
    ∙ asked_so version p h (Slot s) e _ _ _ driver
    (c.is_slot_low.ensures (near_slot s e driver c.requires.formed) version p h is)
    (c.requester_rule-ruled.ensures.number version (readings p h (Slot s)) e.value c.requires.part)
    (c.requester_rule-ruled.ensures.answer version p h o.0 is o.1 e.value c.requires.part (requests_of e.wire o.0 c.requires.part k.drives))
