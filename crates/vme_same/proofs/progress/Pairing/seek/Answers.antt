use Rattle.vme_same.proofs.Leading.{sought_far, sought_on}
use Rattle.vme_same.proofs.progress.Pairing.seek.Goals as goal

pub returns-then-is_same-clause-going : goal.returns-then-is_same-clause-going
returns-then-is_same-clause-going c = λ p v w k fs m seeks.
    sought_far p v w k fs c.args.number c.args.sought.now seeks.1 m c.args.edge.now
    c.args.self.now.has_ended c.args.self.now.is_over (c.is_same.ensures.same c.if-is_same.true)

pub returns-else-is_same-clause-going : goal.returns-else-is_same-clause-going
returns-else-is_same-clause-going c = λ p v w k fs m seeks. (
  seeks.0,
  sought_on p v w k fs c.args.number c.args.sought.now seeks.1 m c.args.edge.now
      (c.is_same.ensures.apart c.if-is_same.false),
)
