use Rattle.vme_moments.proofs.Earlier.{more_begins}
use Rattle.vme_moments.proofs.laws.more_slack_allows_more.Goals as goal

pub returns : goal.returns
returns c = more_begins
