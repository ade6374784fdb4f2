use Rattle.std.proofs.Common.{◌∙◌, sym, ap}
use Rattle.vme_model.specs.History.{drive}
use Rattle.vme_reasons.proofs.NoSuchWire.{never_low}
use Rattle.vme_reasons.proofs.drivers.is_low.Goals as goal

pub returns-then-has_wire-clause-low : goal.returns-then-has_wire-clause-low
returns-then-has_wire-clause-low c = λ k same marks.
    c.is_low.ensures c.args.bus.now.plan k marks ∙ ap (λ h. drive h c.args.driver c.args.wire) same

pub returns-else-has_wire-clause-low : goal.returns-else-has_wire-clause-low
returns-else-has_wire-clause-low c = λ k same marks. let b = c.args.bus.now in
    c.if-has_wire.false ∙ sym (never_low b.version b.plan b.history c.args.driver c.args.wire c.laws.ensures.legal (sym c.has_wire.ensures ∙ c.if-has_wire.false))
