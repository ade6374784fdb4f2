use Rattle.vme_standings.proofs.FrontLaws.{unseen_covers}
use Rattle.vme_standings.proofs.front_laws.unseen_edge_keeps_fronts_covered.Goals as goal

pub returns : goal.returns
returns c = λ version p pins h e d old ok legal none requests hidden covers. unseen_covers version p ok pins h d old requests hidden covers e legal none
