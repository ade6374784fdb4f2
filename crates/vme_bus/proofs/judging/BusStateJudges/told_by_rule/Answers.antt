use Rattle.std.proofs.Common.{◌≡◌, ◌∙◌, sym, ap, subst, true, false}
use Rattle.vme_model.specs.declared.pins.Pins.{Pins}
use Rattle.vme_model.specs.Signals.{is_well_formed, has_wire, has_value}
use Rattle.vme_model.specs.Sets.{has_bus_level}
use Rattle.vme_model.specs.Plan.{board, has_driver}
use Rattle.vme_model.specs.History.{last_level}
use Rattle.vme_model.specs.Readings.{readings}
use Rattle.vme_model.specs.Rules.{guard, pick}
use Rattle.vme_model.proofs.Bools.{and_left, and_right}
use Rattle.vme_arbiter.specs.declared.policies.AnyPolicy.{AnyPolicy}
use Rattle.vme_arbiter.specs.Local.{over}
use Rattle.vme_wiring.proofs.RuleRows.{controller_guarded}
use Rattle.vme_bus.specs.Layouts.{seat_of}
use Rattle.std.specs.Prelude.{option_map}
use Rattle.std.specs.Option.{option_copied}
use Rattle.vme_bus.specs.Records.{seat_of_record}
use Rattle.vme_bus.proofs.Asked.{asks_for, unseated}
use Rattle.vme_bus.proofs.OneSlot.{seated}
use Rattle.vme_bus.proofs.judging.BusStateJudges.told_by_rule.Goals as goal

pub returns-in-Controller : goal.returns-in-Controller
returns-in-Controller g c = λ version p h is exists.
    let e = c.args.edge in
    let formed = and_left (is_well_formed e) (has_driver p e.driver e.wire) exists in
    let own = subst (λ d. has_wire d e.wire ≡ true) c.in-Controller.is (and_left (has_wire e.driver e.wire) (has_value e.wire e.fall e.value) formed) in
    let picks = ap (λ (a : AnyPolicy). pick a.kind (has_bus_level c.shared.result.requests) (last_level h)) (ap (λ a. a.0) (c.arbiter.ensures version p h is)) in
    subst (λ k. g.A.Outcome.tells c.told.result k)
    (ap (λ (x : Pins). (guard version (over p.arbiter h x) e.wire e.fall e.value).1) (c.shared.ensures version p h is) ∙ controller_guarded version p h e c.in-Controller.is formed)
    (c.told.ensures.rows p.arbiter version h (ap (λ a. a.1) (c.arbiter.ensures version p h is)) own (λ grant. picks))

pub returns-in-Some : goal.returns-in-Some
returns-in-Some g c = λ version p h is exists.
    let e = c.args.edge in
    let s = c.in-Slot.slot in
    let k = seated p s (seat_of_record c.in-Some.seat.now) (sym (ap (option_map seat_of_record) (ap option_copied c.in-Some.is)) ∙ c.record.ensures ∙ is.layout.seats s) in
    let q = asks_for p s k.row e k.found c.in-Slot.is exists in
    subst (λ d. g.A.Outcome.tells c.board_rule-number.result.1 (guard version (readings p h d) e.wire e.fall e.value).1) (sym c.in-Slot.is)
    (c.board_rule-number.ensures.answer version p h k.row is k.found k.same q.drives q.value)

pub returns-in-None : goal.returns-in-None
returns-in-None g c = λ version p h is exists.
    let e = c.args.edge in
    let s = c.in-Slot.slot in
    let has = subst (λ d. has_driver p d e.wire ≡ true) c.in-Slot.is (and_right (is_well_formed e) (has_driver p e.driver e.wire) exists) in
    let none = sym (is.layout.seats s) ∙ sym c.record.ensures ∙ ap (option_map seat_of_record) (ap option_copied c.in-None.is) in
    let bad : false ≡ true = sym (unseated p (seat_of p) (board p s) e.wire none) ∙ has in
    absurd (cc)
