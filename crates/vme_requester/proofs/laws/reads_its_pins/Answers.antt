use Rattle.vme_requester.proofs.ReadPins.{reads_pins}
use Rattle.vme_requester.proofs.laws.reads_its_pins.Goals as goal

pub returns : goal.returns
returns c = λ version s row own pins free r w fall value says own_wire. reads_pins version s row own pins free r says w fall value own_wire
