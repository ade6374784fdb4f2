use Rattle.vme_summary.proofs.Shares.{by_one_rule_each}
use Rattle.vme_summary.proofs.laws.rules_share_accepted_edges.Goals as goal

pub returns : goal.returns
returns c = by_one_rule_each
