use Rattle.vme_model.proofs.Reasons.{why_tells_verdict}
use Rattle.vme_model.proofs.laws.why_tells_the_verdict.Goals as goal

pub returns : goal.returns
returns c = why_tells_verdict
