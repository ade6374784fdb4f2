use Rattle.vme_chain.proofs.History.{reads_the_end}
use Rattle.vme_chain.proofs.laws.reads_the_end.Goals as goal

pub returns : goal.returns
returns c = reads_the_end
