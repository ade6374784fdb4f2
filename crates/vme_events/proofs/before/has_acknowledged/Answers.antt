use Rattle.std.proofs.Common.{◌∙◌, sym, ap}
use Rattle.std.specs.Prelude.{is_some}
use Rattle.vme_model.specs.declared.boards.IrqKind.TheVariants.{Roak}
use Rattle.vme_model.specs.declared.signals.Wire.TheVariants.{Dtack}
use Rattle.vme_model.specs.declared.signals.Driver.TheVariants.{Slot}
use Rattle.vme_model.specs.Signals.{has_wire}
use Rattle.vme_model.specs.History.{served_since_request}
use Rattle.vme_model.proofs.Numbers.{served_has_since}
use Rattle.vme_explain.proofs.NoSuchWire.{legal_in, never_moved}
use Rattle.vme_events.proofs.Waiting.{nothing_answered}
use Rattle.vme_events.proofs.before.has_acknowledged.Goals as goal

pub returns-in-Controller : goal.returns-in-Controller
returns-in-Controller c = λ k same marks. let b = c.args.bus.now in
    sym (ap (λ h. served_since_request b.plan h c.args.driver Roak) (sym same)
    ∙ nothing_answered b.plan k c.args.driver Roak (never_moved b.version b.plan k c.args.driver Dtack (legal_in b.version b.plan b.history k same c.laws.ensures.legal)
    (ap (λ d. has_wire d Dtack) c.in-Controller.is)))

pub returns-then-has_wire : goal.returns-then-has_wire
returns-then-has_wire c = λ k same marks. let b = c.args.bus.now in
    c.is_some.ensures ∙ ap is_some (c.served_since.ensures b.plan k marks)
    ∙ served_has_since b.plan k (Slot c.in-Slot.slot) Roak
    ∙ ap (λ h. served_since_request b.plan h (Slot c.in-Slot.slot) Roak) same
    ∙ ap (λ d. served_since_request b.plan b.history d Roak) (sym c.in-Slot.is)

pub returns-else-has_wire : goal.returns-else-has_wire
returns-else-has_wire c = λ k same marks. let b = c.args.bus.now in
    c.if-has_wire.false
    ∙ sym (ap (λ h. served_since_request b.plan h c.args.driver Roak) (sym same)
    ∙ nothing_answered b.plan k c.args.driver Roak (never_moved b.version b.plan k c.args.driver Dtack (legal_in b.version b.plan b.history k same c.laws.ensures.legal)
    (ap (λ d. has_wire d Dtack) c.in-Slot.is ∙ sym c.has_wire.ensures ∙ c.if-has_wire.false)))
