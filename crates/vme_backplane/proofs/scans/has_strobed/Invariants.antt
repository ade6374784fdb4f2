use Rattle.std.proofs.Common.{◌≡◌, reverse, length}
use Rattle.vme_model.specs.History.{has_strobed}
use Rattle.vme_backplane.proofs.scans.has_strobed.Given as goal

abbrev pub invariant-loop-edge : goal.invariant-loop-edge
invariant-loop-edge l = has_strobed (reverse l.fn.edges) l.fn.board ≡ has_strobed (reverse l.rest) l.fn.board

abbrev pub decreases-loop-edge : goal.decreases-loop-edge
decreases-loop-edge l = length l.rest
