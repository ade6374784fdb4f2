use Rattle.vme_interrupter.proofs.Seen.{edges_seen}
use Rattle.vme_interrupter.proofs.laws.notes_history.Goals as goal

pub returns : goal.returns
returns c = edges_seen
