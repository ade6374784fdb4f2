use Rattle.vme_trace.proofs.OneSpelling.{reads, spelled}
use Rattle.vme_trace.proofs.laws.line_reads_as_spelled.Goals as goal

pub returns : goal.returns
returns c = λ line e. (reads line e, spelled line e)
