use Rattle.vme_interrupter.proofs.Seen.{served_seen}
use Rattle.vme_interrupter.proofs.laws.notes_service.Goals as goal

pub returns : goal.returns
returns c = served_seen
