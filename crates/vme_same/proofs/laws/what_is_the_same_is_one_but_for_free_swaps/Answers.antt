use Rattle.vme_same.proofs.OneTrace.{all_same, same_traces}
use Rattle.vme_same.proofs.laws.what_is_the_same_is_one_but_for_free_swaps.Goals as goal

pub returns-clause-version : goal.returns-clause-version
returns-clause-version c = λ p v w es fs n same. (same_traces p v w es fs n same).version

pub returns-clause-swaps : goal.returns-clause-swaps
returns-clause-swaps c = λ p v w es fs n same. (same_traces p v w es fs n same).swaps

pub returns-clause-first : goal.returns-clause-first
returns-clause-first c = λ p v w es fs n same. (same_traces p v w es fs n same).first

pub returns-clause-second : goal.returns-clause-second
returns-clause-second c = λ p v w es fs n same. (same_traces p v w es fs n same).second

pub returns-clause-edges : goal.returns-clause-edges
returns-clause-edges c = λ p v w es fs n accepted same. (all_same p v w es fs n accepted same).edges

pub returns-clause-delivered : goal.returns-clause-delivered
returns-clause-delivered c = λ p v w es fs n accepted same.
    (all_same p v w es fs n accepted same).delivered

pub returns-clause-stand : goal.returns-clause-stand
returns-clause-stand c = λ p v w es fs n accepted same. (all_same p v w es fs n accepted same).alike
