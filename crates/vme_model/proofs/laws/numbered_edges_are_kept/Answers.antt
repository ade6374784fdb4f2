use Rattle.vme_model.proofs.Numbers.{numbered_are_kept, all_at_their_number}
use Rattle.vme_model.proofs.laws.numbered_edges_are_kept.Goals as goal

pub returns-clause-kept : goal.returns-clause-kept
returns-clause-kept c = numbered_are_kept

pub returns-clause-numbers : goal.returns-clause-numbers
returns-clause-numbers c = all_at_their_number
