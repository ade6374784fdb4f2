use Rattle.vme_chain.proofs.History.{reads_inputs}
use Rattle.vme_chain.proofs.laws.reads_inputs.Goals as goal

pub returns : goal.returns
returns c = reads_inputs
