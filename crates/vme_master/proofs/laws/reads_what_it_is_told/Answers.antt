use Rattle.vme_master.proofs.Told.{reads_told}
use Rattle.vme_master.proofs.laws.reads_what_it_is_told.Goals as goal

pub returns : goal.returns
returns c = λ version s row handler own cycles has_strobed pins holds_bus r w fall value says own_wire. reads_told version s row handler own cycles has_strobed pins holds_bus r says w fall value own_wire
