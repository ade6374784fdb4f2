use Rattle.std.proofs.Common.{◌∙◌, ap, sym}
use Rattle.vme_model.specs.declared.signals.Driver.{Driver}
use Rattle.vme_model.specs.Witnesses.{strobe}
use Rattle.vme_reasons.proofs.Told.{no_strobe, strobe_is}
use Rattle.vme_reasons.proofs.parts.strobe.Goals as goal

pub returns-in-Controller : goal.returns-in-Controller
returns-in-Controller c = λ k at is.
    let b = c.args.backplane.now in
    no_strobe b.version b.plan b.history k at c.laws.ensures.legal ∙ sym (ap (λ (d : Driver). strobe k d) c.in-Controller.is)

pub returns-in_err-at-in-Slot : goal.returns-in_err-at-in-Slot
returns-in_err-at-in-Slot c = λ k at is. ?

pub returns-in_ok-at-in-Slot : goal.returns-in_ok-at-in-Slot
returns-in_ok-at-in-Slot c = λ k at is. ?
