use Rattle.std.proofs.Common.{sym, ◌∙◌}
use Rattle.vme_explain.proofs.NoSuchWire.{never_moved, legal_in}
use Rattle.vme_explain.proofs.drivers.since.Goals as goal

pub returns-then-has_wire : goal.returns-then-has_wire
returns-then-has_wire c = λ k same marks. c.since.ensures c.args.bus.now.plan k marks

pub returns-else-has_wire : goal.returns-else-has_wire
returns-else-has_wire c = λ k same marks. let b = c.args.bus.now in
    sym (never_moved b.version b.plan k c.args.driver c.args.wire (legal_in b.version b.plan b.history k same c.laws.ensures.legal) (sym c.has_wire.ensures ∙ c.if-has_wire.false))
