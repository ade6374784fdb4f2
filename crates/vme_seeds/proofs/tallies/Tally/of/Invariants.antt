use Rattle.std.proofs.Common.{take}
use Rattle.vme_bus.specs.Sets.{has}
use Rattle.vme_seeds.specs.Tallies.{AreCounts}
use Rattle.vme_seeds.proofs.tallies.Tally.of.Given as goal

abbrev pub invariant-loop-edge : goal.invariant-loop-edge
invariant-loop-edge l = AreCounts (has l.boards) (take l.edge-index l.edges) l.tally.counts
