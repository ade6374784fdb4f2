use Rattle.vme_interrupter.proofs.ReadPins.{reads_pins}
use Rattle.vme_interrupter.proofs.laws.reads_its_pins.Goals as goal

pub returns : goal.returns
returns c = λ version s row own is_served pins r w fall value says own_wire. reads_pins version s row own is_served pins r says w fall value own_wire
