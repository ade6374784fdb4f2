use Rattle.std.proofs.Common.{◌∙◌, sym}
use Rattle.std.specs.List.{flat_map}
use Rattle.vme_model.specs.declared.signals.Driver.TheVariants.{Controller}
use Rattle.vme_model.specs.Offers.{wires}
use Rattle.vme_model.specs.Open.{moves}
use Rattle.vme_events.specs.Misses.{is_missed}
use Rattle.vme_events.proofs.Searched.{found_here, found_later}
use Rattle.vme_events.proofs.searches.of_drivers.Goals as goal

pub returns-then-is_some : goal.returns-then-is_some
returns-then-is_some c = let b = c.args.bus.now in
    sym (c.loop-driver.invariant ∙ found_here (is_missed b c.args.only c.args.miss) (λ d. flat_map (moves b.history d) (wires d)) c.args.drivers.now c.loop-driver.driver-index Controller
    c.of_driver-edge.result c.loop-driver-test.true c.of_driver-edge.ensures (sym c.is_some.ensures ∙ c.if-is_some.true))

pub loop-driver-preserved : goal.loop-driver-preserved
loop-driver-preserved c = let b = c.args.bus.now in
    c.loop-driver.invariant ∙ found_later (is_missed b c.args.only c.args.miss) (λ d. flat_map (moves b.history d) (wires d)) c.args.drivers.now c.loop-driver.driver-index Controller
    c.of_driver-edge.result c.loop-driver-test.true c.of_driver-edge.ensures (sym c.is_some.ensures ∙ c.if-is_some.false)
