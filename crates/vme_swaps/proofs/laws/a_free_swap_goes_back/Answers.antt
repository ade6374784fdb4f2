use Rattle.vme_swaps.proofs.Free.{free_back}
use Rattle.vme_swaps.proofs.laws.a_free_swap_goes_back.Goals as goal

pub returns : goal.returns
returns c = free_back
