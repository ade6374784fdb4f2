use Rattle.vme_arbiter.proofs.ReadPins.{reads_pins}
use Rattle.vme_arbiter.proofs.laws.reads_its_pins.Goals as goal

pub returns : goal.returns
returns c = λ version kind own last_level pins r w fall value says own_wire. reads_pins version kind own last_level pins r says w fall value own_wire
