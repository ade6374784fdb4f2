use Rattle.vme_model.proofs.Picks.{one_pick}
use Rattle.vme_arbiter.proofs.laws.picks_one.Goals as goal

pub returns : goal.returns
returns c = one_pick
