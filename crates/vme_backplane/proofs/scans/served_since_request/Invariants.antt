use Rattle.std.proofs.Common.{◌≡◌, reverse, length}
use Rattle.vme_model.specs.History.{served_since_request}
use Rattle.vme_backplane.proofs.scans.served_since_request.Given as goal

abbrev pub invariant-loop-edge : goal.invariant-loop-edge
invariant-loop-edge l = served_since_request l.plan (reverse l.fn.edges) l.fn.board l.fn.kind ≡ served_since_request l.plan (reverse l.rest) l.fn.board l.fn.kind

abbrev pub decreases-loop-edge : goal.decreases-loop-edge
decreases-loop-edge l = length l.rest
