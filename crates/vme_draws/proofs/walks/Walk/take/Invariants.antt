use Rattle.std.proofs.Common.{◌≡◌, ◌-◌}
use Rattle.vme_draws.specs.Walks.{walked}
use Rattle.vme_draws.proofs.walks.Walk.take.Given as goal

abbrev pub invariant-loop-made : goal.invariant-loop-made
invariant-loop-made l = walked l.edges l.fn.self ≡ walked (l.edges - l._made) l.self
