use Rattle.vme_standings.proofs.FrontSeen.{quiet_covers}
use Rattle.vme_standings.proofs.front_laws.other_edges_keep_fronts_covered.Goals as goal

pub returns : goal.returns
returns c = λ version p h e old ok legal strobe head output covers. quiet_covers version p ok h e legal old covers strobe head output
