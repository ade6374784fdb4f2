use Rattle.vme_events.proofs.Places.{edges_placed, places_below}
use Rattle.vme_events.proofs.laws.places_grow.Goals as goal

pub returns-clause-below : goal.returns-clause-below
returns-clause-below c = places_below

pub returns-clause-edges : goal.returns-clause-edges
returns-clause-edges c = edges_placed
