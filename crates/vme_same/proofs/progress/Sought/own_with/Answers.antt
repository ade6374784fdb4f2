use Rattle.std.proofs.Common.{subst}
use Rattle.vme_same.specs.Comparing.{IsFirstOf}
use Rattle.vme_same.proofs.Lists.{first_kept, first_new}
use Rattle.vme_same.proofs.progress.Sought.own_with.Goals as goal

pub returns-in-Some-clause-own : goal.returns-in-Some-clause-own
returns-in-Some-clause-own c = λ left first.
    first_kept c.args.self.now.edge.driver (c.args.number, c.args.edge.now) _ left
    c.args.self.now.own c.in-Some.is first

pub returns-then-is_of-clause-own : goal.returns-then-is_of-clause-own
returns-then-is_of-clause-own c = λ left first.
    let d = c.args.self.now.edge.driver in
    first_new d c.args.number c.args.edge.now left (c.is_of.ensures.same c.if-is_of.true)
    (subst (IsFirstOf d left) c.in-None.is first)

pub returns-else-is_of-clause-own : goal.returns-else-is_of-clause-own
returns-else-is_of-clause-own c = λ left first. (
  c.is_of.ensures.apart c.if-is_of.false,
  subst (IsFirstOf c.args.self.now.edge.driver left) c.in-None.is first,
)
