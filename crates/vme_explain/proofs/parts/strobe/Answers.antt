use Rattle.std.proofs.Common.{◌∙◌, ap, sym}
use Rattle.std.specs.Option.{option_to_list}
use Rattle.vme_model.specs.declared.signals.Driver.{Driver}
use Rattle.vme_model.specs.declared.witnesses.Witness.{Witness}
use Rattle.vme_model.specs.Witnesses.{strobe}
use Rattle.vme_explain.proofs.Witnessed.{no_strobe, strobe_witness, no_witness}
use Rattle.vme_explain.proofs.parts.strobe.Goals as goal

pub returns-in-Controller : goal.returns-in-Controller
returns-in-Controller c = λ k at is.
    let b = c.args.bus.now in
    no_strobe b.version b.plan b.history k at c.laws.ensures.legal ∙ sym (ap (λ (d : Driver). strobe k d) c.in-Controller.is)

pub returns-in_err-at-in-Slot : goal.returns-in_err-at-in-Slot
returns-in_err-at-in-Slot c = λ k at is.
    ap (option_to_list {X = Witness}) c.from_residual.ensures
    ∙ no_witness k c.args.driver c.in-Slot.slot c.in-Slot.is (sym (c.strobed_at.ensures c.args.bus.now.plan k is) ∙ c.in_err-at-in-Slot.was)

pub returns-in_ok-at-in-Slot : goal.returns-in_ok-at-in-Slot
returns-in_ok-at-in-Slot c = λ k at is.
    strobe_witness k c.args.driver c.in-Slot.slot c.in_ok-at-in-Slot.at c.in-Slot.is (sym (c.strobed_at.ensures c.args.bus.now.plan k is) ∙ c.in_ok-at-in-Slot.was)
