use Rattle.std.proofs.Common.{◌≡◌, ◌+◌, drop}
use Rattle.vme_seeds.specs.Choices.{falls_at}
use Rattle.vme_seeds.proofs.chances.falls_at.Given as goal

abbrev pub invariant-loop-place : goal.invariant-loop-place
invariant-loop-place l = falls_at l.chances l.x ≡ falls_at (drop l.place l.chances) l.left + l.place
