use Rattle.std.proofs.Common.{◌∙◌, sym, ap}
use Rattle.std.specs.Prelude.{is_some}
use Rattle.vme_model.specs.declared.signals.Wire.TheVariants.{Irq}
use Rattle.vme_model.specs.History.{drive}
use Rattle.vme_model.specs.Numbered.{served_since}
use Rattle.vme_explain.proofs.Pending.{pending_unless_served}
use Rattle.vme_explain.proofs.drivers.is_pending.Goals as goal

pub returns-then-is_low : goal.returns-then-is_low
returns-then-is_low c = λ k same marks. let b = c.args.bus.now in
    pending_unless_served b.plan b.history c.args.driver c.args.interrupter k c.is_none.result c.requires same
    (ap (λ d. drive b.history d Irq) c.in-Slot.is ∙ sym (c.is_low.ensures.low) ∙ c.if-is_low.true)
    (ap (λ d. is_some (served_since b.plan k d c.args.interrupter.kind)) c.in-Slot.is ∙ ap is_some (sym (c.served_since.ensures b.plan k marks)) ∙ c.is_none.ensures)
