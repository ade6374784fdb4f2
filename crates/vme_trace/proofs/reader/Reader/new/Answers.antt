use Rattle.vme_trace.proofs.FedReader.{none_read}
use Rattle.vme_trace.proofs.reader.Reader.new.Goals as goal

pub returns : goal.returns
returns c = rw c.new.ensures none_read
