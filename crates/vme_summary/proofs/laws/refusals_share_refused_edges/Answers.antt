use Rattle.vme_summary.proofs.Shares.{by_one_refusal_each}
use Rattle.vme_summary.proofs.laws.refusals_share_refused_edges.Goals as goal

pub returns : goal.returns
returns c = by_one_refusal_each
