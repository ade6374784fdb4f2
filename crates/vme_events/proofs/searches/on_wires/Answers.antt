use Rattle.std.proofs.Common.{◌∙◌, sym}
use Rattle.vme_model.specs.declared.signals.Wire.TheVariants.{Bg}
use Rattle.vme_model.specs.Open.{moves}
use Rattle.vme_events.specs.Misses.{is_missed}
use Rattle.vme_events.proofs.Searched.{found_here, found_later}
use Rattle.vme_events.proofs.searches.on_wires.Goals as goal

pub returns-then-is_some : goal.returns-then-is_some
returns-then-is_some c = let b = c.args.bus.now in
    sym (c.loop-wire.invariant ∙ found_here (is_missed b c.args.only c.args.miss) (moves b.history c.args.driver) c.args.wires.now c.loop-wire.wire-index (Bg 0) c.on_wire-edge.result
    c.loop-wire-test.true c.on_wire-edge.ensures (sym c.is_some.ensures ∙ c.if-is_some.true))

pub loop-wire-preserved : goal.loop-wire-preserved
loop-wire-preserved c = let b = c.args.bus.now in
    c.loop-wire.invariant ∙ found_later (is_missed b c.args.only c.args.miss) (moves b.history c.args.driver) c.args.wires.now c.loop-wire.wire-index (Bg 0) c.on_wire-edge.result c.loop-wire-test.true
    c.on_wire-edge.ensures (sym c.is_some.ensures ∙ c.if-is_some.false)
