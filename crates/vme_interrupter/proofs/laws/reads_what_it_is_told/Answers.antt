use Rattle.vme_interrupter.proofs.Told.{reads_told}
use Rattle.vme_interrupter.proofs.laws.reads_what_it_is_told.Goals as goal

pub returns : goal.returns
returns c = λ version s row own is_served pins r w fall value says own_wire. reads_told version s row own is_served pins r says w fall value own_wire
