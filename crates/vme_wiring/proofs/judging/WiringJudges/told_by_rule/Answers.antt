use Rattle.std.proofs.Common.{◌≡◌, ◌∙◌, sym, ap, subst, true, false}
use Rattle.std.specs.Prelude.{Option}
use Rattle.std.specs.Option.{option_copied, option_map_or}
use Rattle.vme_model.specs.declared.boards.Row.{Row}
use Rattle.vme_model.specs.declared.pins.Pins.{Pins}
use Rattle.vme_model.specs.declared.signals.Driver.TheVariants.{Slot}
use Rattle.vme_model.specs.Signals.{is_well_formed, has_wire, has_value}
use Rattle.vme_model.specs.Sets.{has_bus_level}
use Rattle.vme_model.specs.Plan.{board, has_driver, drives}
use Rattle.vme_model.specs.History.{last_level}
use Rattle.vme_model.specs.Rules.{guard, pick}
use Rattle.vme_model.proofs.Bools.{and_left, and_right}
use Rattle.vme_arbiter.specs.declared.policies.AnyPolicy.{AnyPolicy}
use Rattle.vme_arbiter.specs.Local.{over}
use Rattle.vme_wiring.proofs.RuleRows.{controller_guarded}
use Rattle.vme_wiring.proofs.LongerHistory.{placed_board}
use Rattle.vme_wiring.proofs.FieldReads.{pins_of_board}
use Rattle.vme_wiring.proofs.judging.WiringJudges.told_by_rule.Goals as goal

pub returns-in-Controller : goal.returns-in-Controller
returns-in-Controller g c = λ version p h is exists.
    let e = c.args.edge in
    let formed = and_left (is_well_formed e) (has_driver p e.driver e.wire) exists in
    let own = subst (λ d. has_wire d e.wire ≡ true) c.in-Controller.is (and_left (has_wire e.driver e.wire) (has_value e.wire e.fall e.value) formed) in
    let w = c.args.self.now in
    let picks = ap (λ (a : AnyPolicy). pick a.kind (has_bus_level w.shared.requests) (last_level h)) (ap (λ a. a.0) is.arbiter) in
    subst (λ k. g.A.Outcome.tells c.told.result k)
    (ap (λ (x : Pins). (guard version (over p.arbiter h x) e.wire e.fall e.value).1) is.shared ∙ controller_guarded version p h e c.in-Controller.is formed)
    (c.told.ensures.rows p.arbiter version h (ap (λ a. a.1) is.arbiter) own (λ grant. picks))

pub returns-in-Some : goal.returns-in-Some
returns-in-Some g c = λ version p h is exists.
    let e = c.args.edge in
    let s = c.in-Slot.slot in
    let k = placed_board version p h s c.in-Some.board.now c.args.self.now is (sym (ap option_copied c.in-Some.is) ∙ c.board.ensures) in
    let found = ap (board p) k.stands.slot ∙ k.found in
    let has = subst (λ d. has_driver p d e.wire ≡ true) c.in-Slot.is (and_right (is_well_formed e) (has_driver p e.driver e.wire) exists) in
    c.told-in-Some.ensures version p h k.row k.is (record {
      driver = c.in-Slot.is ∙ ap (λ t. Slot t) (sym k.stands.slot);
      row = found;
      pins = c.pins_at.ensures ∙ pins_of_board version p h c.args.self.now c.in-Some.board.now k.row is k.same_row found;
      formed = and_left (is_well_formed e) (has_driver p e.driver e.wire) exists;
      drives = subst (λ (o : Option Row). option_map_or (drives e.wire) o false ≡ true) k.found has;
    })
