use Rattle.std.proofs.Common.{arith}
use Rattle.vme_summary.proofs.Words.{each_once}
use Rattle.vme_summary.proofs.tallies.Tally.refused.Goals as goal

pub returns : goal.returns
returns c = λ t is. let all = each_once t in let edges = is.edges in let accepted = is.accepted in let left = c.saturating_sub.ensures in omega (arith, all, edges, accepted, left)
