use Rattle.vme_cycles.proofs.OneTenure.{tenure_begins_alone}
use Rattle.vme_cycles.proofs.laws.a_tenure_begins_alone.Goals as goal

pub returns : goal.returns
returns c = tenure_begins_alone
