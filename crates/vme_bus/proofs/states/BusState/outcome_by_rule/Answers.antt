use Rattle.std.proofs.Common.{◌≡◌, sym, subst, true, arith}
use Rattle.vme_model.specs.Signals.{is_well_formed, has_wire, has_value}
use Rattle.vme_model.specs.Plan.{has_driver}
use Rattle.vme_model.specs.Readings.{readings}
use Rattle.vme_model.specs.Rules.{guard}
use Rattle.vme_model.proofs.Bools.{and_left}
use Rattle.vme_bus.proofs.Asked.{asks_for, has_board, near_slot}
use Rattle.vme_bus.proofs.states.BusState.outcome_by_rule.Goals as goal

pub returns-in-Controller : goal.returns-in-Controller
returns-in-Controller g c = λ version p h is exists.
    let e = c.args.edge in
    let formed = and_left (is_well_formed e) (has_driver p e.driver e.wire) exists in
    let own = subst (λ d. has_wire d e.wire ≡ true) c.in-Controller.is (and_left (has_wire e.driver e.wire) (has_value e.wire e.fall e.value) formed) in
    subst (λ d. g.A.Outcome.reports c.controller_rule.result.1 (guard version (readings p h d) e.wire e.fall e.value).1) (sym c.in-Controller.is)
    (c.controller_rule.ensures.answer version p h is e.value own)

pub returns-then-slot-lt22 : goal.returns-then-slot-lt22
returns-then-slot-lt22 g c = λ version p h is exists.
    let e = c.args.edge in
    let s = c.in-Slot.slot in
    let o = has_board p s e c.in-Slot.is exists in
    let q = asks_for p s o.0 e o.1 c.in-Slot.is exists in
    subst (λ d. g.A.Outcome.reports c.board_rule.result.1 (guard version (readings p h d) e.wire e.fall e.value).1) (sym c.in-Slot.is)
    (c.board_rule.ensures.answer version p h o.0 is o.1 q.drives q.value)

pub returns-else-slot-lt22 : goal.returns-else-slot-lt22
returns-else-slot-lt22 g c = λ version p h is exists.
    let e = c.args.edge in
    let formed = and_left (is_well_formed e) (has_driver p e.driver e.wire) exists in
    let near = near_slot c.in-Slot.slot e c.in-Slot.is formed in
    let far = c.if-slot-lt22.false in
    absurd (omega arith)
