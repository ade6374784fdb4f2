use Rattle.vme_arbiter.proofs.Told.{reads_told}
use Rattle.vme_arbiter.proofs.laws.reads_what_it_is_told.Goals as goal

pub returns : goal.returns
returns c = λ version kind own last_level pins r w fall value says own_wire. reads_told version kind own last_level pins r says w fall value own_wire
