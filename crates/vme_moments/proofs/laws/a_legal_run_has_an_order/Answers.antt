use Rattle.vme_moments.proofs.CutRuns.{cut_has_order}
use Rattle.vme_moments.proofs.laws.a_legal_run_has_an_order.Goals as goal

pub returns : goal.returns
returns c = cut_has_order
