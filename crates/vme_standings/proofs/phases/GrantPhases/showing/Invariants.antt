use Rattle.std.proofs.Common.{◌<◌, ℕ}
use Rattle.vme_standings.specs.Beginnings.{KeepsPhases, ShowsChain}
use Rattle.vme_standings.proofs.phases.GrantPhases.showing.Given as goal

abbrev pub invariant-loop-level : goal.invariant-loop-level
invariant-loop-level l = KeepsPhases (λ q. (c : ℕ) → c < l.level → ShowsChain l.plan l.probed l.low c q) l.self l.shown
