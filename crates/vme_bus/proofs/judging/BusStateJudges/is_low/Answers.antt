use Rattle.std.proofs.Common.{◌≡◌, ◌≤◌, ◌∙◌, sym, ap, arith, false}
use Rattle.std.specs.Prelude.{nat_lt}
use Rattle.std.proofs.lemmas.Bool.Decides.{nat_tests}
use Rattle.vme_model.specs.declared.signals.Driver.{Driver}
use Rattle.vme_model.specs.History.{drive}
use Rattle.vme_arbiter.specs.Local.{low}
use Rattle.vme_wiring.proofs.FieldReads.{own_of_controller}
use Rattle.vme_bus.proofs.OneSlot.{beyond_slots}
use Rattle.vme_bus.proofs.judging.BusStateJudges.is_low.Goals as goal

pub returns-in-Controller : goal.returns-in-Controller
returns-in-Controller c version p h is =
    c.is_low.ensures ∙ ap (λ a. low a.1 c.args.wire) (c.arbiter.ensures version p h is) ∙ own_of_controller version p h c.args.wire is.legal
    ∙ sym (ap (λ (d : Driver). drive h d c.args.wire) c.in-Controller.is)

pub returns-else-slot-lt22 : goal.returns-else-slot-lt22
returns-else-slot-lt22 c version p h is =
    let s = c.in-Slot.slot in
    let far : 22 ≤ s = c.if-slot-lt22.false in
    let off : nat_lt s 22 ≡ false = grind (arith, nat_tests) in
    off ∙ beyond_slots version p h s c.args.wire is.accepted is.legal far ∙ sym (ap (λ (d : Driver). drive h d c.args.wire) c.in-Slot.is)
