use Rattle.std.proofs.Common.{◌≡◌, ◌∙◌, refl, sym, ap, subst, true, false}
use Rattle.std.specs.Prelude.{Option}
use Rattle.std.specs.Option.{option_copied, option_map_or}
use Rattle.vme_model.specs.declared.boards.Row.{Row}
use Rattle.vme_model.specs.declared.pins.Pins.{Pins}
use Rattle.vme_model.specs.declared.refusals.Refused.TheVariants.{NoSuchDriver}
use Rattle.vme_model.specs.declared.signals.Driver.TheVariants.{Slot}
use Rattle.vme_model.specs.Signals.{has_wire, has_value}
use Rattle.vme_model.specs.Sets.{has_bus_level}
use Rattle.vme_model.specs.Plan.{board, has_driver, drives}
use Rattle.vme_model.specs.History.{last_level}
use Rattle.vme_model.specs.Rules.{pick}
use Rattle.vme_model.specs.Verdict.{check, ruling}
use Rattle.vme_model.proofs.Bools.{and_left}
use Rattle.vme_arbiter.specs.declared.policies.AnyPolicy.{AnyPolicy}
use Rattle.vme_arbiter.specs.Local.{over}
use Rattle.vme_histories.specs.Asked.{asked}
use Rattle.vme_wiring.proofs.RuleRows.{controller_asked}
use Rattle.vme_wiring.proofs.LongerHistory.{placed_board}
use Rattle.vme_wiring.proofs.FieldReads.{pins_of_board}
use Rattle.vme_histories.proofs.JudgedParts.{exists_as, exists_by, board_asked}
use Rattle.vme_wiring.proofs.wirings.Wiring.ask.Goals as goal

pub returns-in-Controller : goal.returns-in-Controller
returns-in-Controller c version p h is =
    let e = c.args.edge in
    let formed = sym c.is_well_formed.ensures ∙ c.if-not-is_well_formed.false in
    let own = subst (λ d. has_wire d e.wire ≡ true) c.in-Controller.is (and_left (has_wire e.driver e.wire) (has_value e.wire e.fall e.value) formed) in
    let some = exists_by p e formed (subst (λ d. has_driver p d e.wire ≡ true) (sym c.in-Controller.is) own) in
    let w = c.args.self.now in
    let picks = ap (λ (a : AnyPolicy). pick a.kind (has_bus_level w.shared.requests) (last_level h)) (ap (λ a. a.0) is.arbiter) in
    c.may.ensures.rows p.arbiter version h (ap (λ a. a.1) is.arbiter) own (λ grant. picks)
    ∙ ap (λ (x : Pins). ruling version (over p.arbiter h x) e) is.shared
    ∙ controller_asked version p h e c.in-Controller.is formed
    ∙ sym (ap (λ b. check b NoSuchDriver (asked version p h e)) some)

pub returns-in-Some : goal.returns-in-Some
returns-in-Some c version p h is =
    let e = c.args.edge in
    let s = c.in-Slot.slot in
    let formed = sym c.is_well_formed.ensures ∙ c.if-not-is_well_formed.false in
    let k = placed_board version p h s c.in-Some.board.now c.args.self.now is (sym (ap option_copied c.in-Some.is) ∙ c.board.ensures) in
    let b = drives e.wire k.row in
    let of_slot = subst (λ (o : Option Row). option_map_or (drives e.wire) o false ≡ b) (sym k.found) refl in
    let there = exists_as p e b formed (subst (λ d. has_driver p d e.wire ≡ b) (sym c.in-Slot.is) of_slot) in
    board_asked version p h e b there c.may-in-Some.result
    (λ lacks. c.may-in-Some.ensures.lacks version p h k.row k.is lacks)
    (λ has. c.may-in-Some.ensures.asked version p h k.row k.is (record {
      driver = c.in-Slot.is ∙ ap (λ t. Slot t) (sym k.stands.slot);
      row = ap (board p) k.stands.slot ∙ k.found;
      pins = pins_of_board version p h c.args.self.now c.in-Some.board.now k.row is k.same_row (ap (board p) k.stands.slot ∙ k.found);
      formed = formed;
      drives = has;
    }))
