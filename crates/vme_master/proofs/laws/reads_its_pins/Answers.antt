use Rattle.vme_master.proofs.ReadPins.{reads_pins}
use Rattle.vme_master.proofs.laws.reads_its_pins.Goals as goal

pub returns : goal.returns
returns c = λ version s row handler own cycles has_strobed pins holds_bus r w fall value says own_wire. reads_pins version s row handler own cycles has_strobed pins holds_bus r
    says w fall value own_wire
