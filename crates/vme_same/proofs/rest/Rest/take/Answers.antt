use Rattle.std.proofs.Common.{◌≡◌, ◌∙◌, ◌-◌, arith, subst}
use Rattle.std.specs.Prelude.{OnSome}
use Rattle.std.specs.List.{remove}
use Rattle.vme_same.proofs.Lists.{taken_out}
use Rattle.vme_same.proofs.rest.Rest.take.Goals as goal

pub returns-clause-edges : goal.returns-clause-edges
returns-clause-edges c = λ at.
    let xs = c.args.self.now.edges.items in
    let i = c.len.result - 1 - c.args.place in
    subst (λ r. OnSome r (c.remove.new.self.items ≡ remove xs i))
    (c.remove.ensures.succeeds at.left (omega arith)) c.remove.ensures.items
    ∙ taken_out c.args.edge.now c.args.place xs at i (omega arith)
