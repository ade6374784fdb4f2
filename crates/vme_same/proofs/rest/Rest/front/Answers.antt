use Rattle.vme_same.proofs.Lists.{front_of}
use Rattle.vme_same.proofs.rest.Rest.front.Goals as goal

pub returns-clause-some : goal.returns-clause-some
returns-clause-some c = front_of c.args.self.now.edges.items c.at.result.now c.at.ensures
