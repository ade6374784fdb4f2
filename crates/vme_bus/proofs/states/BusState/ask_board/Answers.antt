use Rattle.std.proofs.Common.{◌∙◌, sym, ap}
use Rattle.vme_model.specs.declared.signals.Driver.TheVariants.{Slot}
use Rattle.vme_model.specs.History.{drive}
use Rattle.vme_model.specs.Readings.{readings}
use Rattle.vme_model.specs.Rules.{rule}
use Rattle.vme_bus.proofs.Asked.{asks_for, by_rule, there, moves, asked_at, equal, unequal}
use Rattle.vme_bus.proofs.states.BusState.ask_board.Goals as goal

pub returns-then-is_slot_low-edge : goal.returns-then-is_slot_low-edge
returns-then-is_slot_low-edge c version p h r is found same driver some =
    let s = c.args.slot in
    let e = c.args.edge in
    let k = asks_for p s r e found driver some in
    let low = sym (c.is_slot_low.ensures version p h is) ∙ equal _ _ c.if-is_slot_low-edge.true in
    there (drive h (Slot s) e.wire) e.fall _ low ∙ asked_at version p h s e driver

pub returns : goal.returns
returns c version p h r is found same driver some =
    let s = c.args.slot in
    let e = c.args.edge in
    let k = asks_for p s r e found driver some in
    let low = sym (c.is_slot_low.ensures version p h is) ∙ unequal _ _ c.if-is_slot_low-edge.false in
    let reads = readings p h (Slot s) in
    c.allowed.ensures
    ∙ ap (λ n. by_rule n c.board_rule.result.1) (c.board_rule.ensures.number version p h r is found same k.drives)
    ∙ ap (λ b. by_rule (rule version reads e.wire e.fall e.value).0 b) (c.board_rule.ensures.answer version p h r is found same k.drives k.value)
    ∙ moves (drive h (Slot s) e.wire) e.fall _ low
    ∙ asked_at version p h s e driver
