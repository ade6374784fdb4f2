use Rattle.std.proofs.Common.{◌≡◌, reverse, take}
use Rattle.vme_model.specs.Deliveries.{delivered}
use Rattle.vme_backplane.proofs.scans.deliveries.Given as goal

abbrev pub invariant-loop-place : goal.invariant-loop-place
invariant-loop-place l = l.given.items ≡ delivered l.plan (reverse (take l.place l.edges))
