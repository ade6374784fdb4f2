use Rattle.std.proofs.Common.{◌∙◌, sym, ap}
use Rattle.std.specs.Prelude.{is_some}
use Rattle.vme_model.specs.declared.signals.Driver.TheVariants.{Slot}
use Rattle.vme_model.specs.Readings.{is_pending, readings}
use Rattle.vme_explain.proofs.Pending.{pending_unless_served}
use Rattle.vme_events.proofs.before.is_pending.Goals as goal

pub returns-then-is_low : goal.returns-then-is_low
returns-then-is_low c = λ k same marks.
    let b = c.args.bus.now in
    let d = Slot c.args.slot in
    pending_unless_served b.plan b.history d c.in-Some.interrupter k c.is_none.result (sym c.interrupter_of.ensures ∙ c.in-Some.is) same
    (sym (c.is_low.ensures.low) ∙ c.if-is_low.true)
    (ap is_some (sym (c.served_since.ensures b.plan k marks)) ∙ c.is_none.ensures)
    ∙ ap (is_pending (readings b.plan b.history d)) c.if-interrupter-level.true
