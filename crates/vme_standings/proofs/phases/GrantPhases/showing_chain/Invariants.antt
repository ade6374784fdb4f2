use Rattle.std.proofs.Common.{◌<◌, ℕ}
use Rattle.vme_standings.specs.Beginnings.{KeepsPhases, ShowsAt}
use Rattle.vme_standings.proofs.phases.GrantPhases.showing_chain.Given as goal

abbrev pub invariant-loop-place : goal.invariant-loop-place
invariant-loop-place l = KeepsPhases (λ q. (s : ℕ) → s < l.place → ShowsAt l.plan l.level l.probed l.low s q) l.self l.shown
