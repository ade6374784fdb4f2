use Rattle.std.proofs.Common.{◌-◌, drop, length}
use Rattle.vme_same.specs.Comparing.{HasNoneOf}
use Rattle.vme_same.specs.Kept.{numbers}
use Rattle.vme_same.proofs.rest.Rest.first_of.Given as goal

abbrev pub invariant-loop-before : goal.invariant-loop-before
invariant-loop-before l =
    HasNoneOf l.driver (numbers (drop (length l.self.edges.items - l.before) l.self.edges.items))
