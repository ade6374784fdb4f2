use Rattle.vme_model.proofs.Reasons.{why_states_verdict}
use Rattle.vme_model.proofs.laws.why_states_the_verdict.Goals as goal

pub returns : goal.returns
returns c = why_states_verdict
