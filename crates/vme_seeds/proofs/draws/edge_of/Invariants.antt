use Rattle.std.proofs.Common.{◌≡◌, drop}
use Rattle.std.specs.Prelude.{slice_get}
use Rattle.vme_bus.specs.Sets.{has}
use Rattle.vme_seeds.specs.Kinds.{of_kind}
use Rattle.vme_seeds.proofs.draws.edge_of.Given as goal

abbrev pub invariant-loop-edge : goal.invariant-loop-edge
invariant-loop-edge l =
    slice_get (of_kind (has l.boards) l.kind l.edges) l.place
    ≡ slice_get (of_kind (has l.boards) l.kind (drop l.edge-index l.edges)) l.left
