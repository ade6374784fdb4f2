use Rattle.vme_chain.proofs.History.{holds_every_slot}
use Rattle.vme_chain.proofs.laws.holds_every_slot.Goals as goal

pub returns : goal.returns
returns c = holds_every_slot
