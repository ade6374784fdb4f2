use Rattle.vme_requester.proofs.Told.{reads_told}
use Rattle.vme_requester.proofs.laws.reads_what_it_is_told.Goals as goal

pub returns : goal.returns
returns c = λ version s row own pins free r w fall value says own_wire. reads_told version s row own pins free r says w fall value own_wire
