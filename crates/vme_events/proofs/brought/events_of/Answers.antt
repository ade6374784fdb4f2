use Rattle.std.proofs.Common.{◌∙◌, sym}
use Rattle.vme_events.proofs.ByWire.{brought_by_fall, brought_by_rise}
use Rattle.vme_events.proofs.brought.events_of.Goals as goal

pub returns-then-edge : goal.returns-then-edge
returns-then-edge c = λ k n same marks below. let b = c.args.bus.now in
    c.at_fall.ensures k n same marks below ∙ sym (brought_by_fall b.plan b.history c.args.edge.now c.if-edge.true)

pub returns-else-edge : goal.returns-else-edge
returns-else-edge c = λ k n same marks below. let b = c.args.bus.now in
    c.at_rise.ensures k n same marks below ∙ sym (brought_by_rise b.plan b.history c.args.edge.now c.if-edge.false)
