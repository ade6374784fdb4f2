use Rattle.vme_drive.proofs.BroughtEvents.{ends_with_its_event}
use Rattle.vme_drive.proofs.laws.a_walk_ends_with_its_event.Goals as goal

pub returns : goal.returns
returns c = ends_with_its_event
