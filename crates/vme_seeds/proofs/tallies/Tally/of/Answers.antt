use Rattle.std.proofs.Common.{arith}
use Rattle.vme_bus.specs.Sets.{has}
use Rattle.vme_seeds.proofs.Counted.{few_so_far}
use Rattle.vme_seeds.proofs.tallies.Tally.of.Goals as goal

pub loop-edge-init : goal.loop-edge-init
loop-edge-init c = c.new-tally.ensures (has c.args.boards)

pub add-requires : goal.add-requires
add-requires c =
    few_so_far (has c.args.boards) c.args.edges.now c.loop-edge.tally.counts c.loop-edge.edge-index c.loop-edge.invariant (omega (arith, c.loop-edge.auto.edge-index-end, c.requires)) _
