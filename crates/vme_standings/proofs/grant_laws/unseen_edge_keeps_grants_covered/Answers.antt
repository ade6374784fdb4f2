use Rattle.vme_standings.proofs.GrantHidden.{unseen_covers}
use Rattle.vme_standings.proofs.grant_laws.unseen_edge_keeps_grants_covered.Goals as goal

pub returns : goal.returns
returns c = λ version p pins h e requests probed old ok legal none asked probes closed covers. unseen_covers version p ok pins h requests probed old asked probes closed covers e legal none
