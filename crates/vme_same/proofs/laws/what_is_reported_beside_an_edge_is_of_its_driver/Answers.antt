use Rattle.vme_same.proofs.OwnEdges.{own_edge}
use Rattle.vme_same.proofs.laws.what_is_reported_beside_an_edge_is_of_its_driver.Goals as goal

pub returns-clause-driver : goal.returns-clause-driver
returns-clause-driver c = λ p v w es fs n i e a why found.
    (own_edge e why i a p v w es fs n found).driver

pub returns-clause-there : goal.returns-clause-there
returns-clause-there c = λ p v w es fs n i e a why found.
    (own_edge e why i a p v w es fs n found).there
