use Rattle.vme_trace.proofs.ReadBack.{text_read}
use Rattle.vme_trace.proofs.laws.text_reads_as_written.Goals as goal

pub returns : goal.returns
returns c = text_read
