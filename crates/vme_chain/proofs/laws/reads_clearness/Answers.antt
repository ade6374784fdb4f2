use Rattle.vme_chain.proofs.History.{reads_clearness}
use Rattle.vme_chain.proofs.laws.reads_clearness.Goals as goal

pub returns : goal.returns
returns c = reads_clearness
