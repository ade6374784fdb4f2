use Rattle.std.proofs.Common.{◌-◌, drop, length}
use Rattle.vme_same.specs.Comparing.{IsMissing}
use Rattle.vme_same.specs.Kept.{numbers}
use Rattle.vme_same.proofs.rest.Rest.find.Given as goal

abbrev pub invariant-loop-place : goal.invariant-loop-place
invariant-loop-place l =
    IsMissing l.edge (numbers (drop (length l.self.edges.items - l.place) l.self.edges.items))
