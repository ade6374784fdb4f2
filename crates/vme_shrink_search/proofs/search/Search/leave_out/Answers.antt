use Rattle.std.proofs.Common.{◌∙◌, ap, sym}
use Rattle.vme_shrink_search.specs.Alike.{is_same_reply}
use Rattle.vme_shrink_search.proofs.Searches.{kept_on, not_same, taken_on}
use Rattle.vme_shrink_search.proofs.search.Search.leave_out.Goals as goal

pub returns-then-is_same-clause-on : goal.returns-then-is_same-clause-on
returns-then-is_same-clause-on c =
    let e = c.in_ok-reply.ensures in
    taken_on c.args.self.now _ c.in_ok-reply.reply c.args.from c.args.to e.start e.edge e.target
    (ap (λ v. v.items) c.swap.ensures.x_after ∙ e.other) e.reply
    (ap (is_same_reply c.in_ok-reply.reply) (sym e.target) ∙ sym c.is_same.ensures ∙ c.if-is_same.true)

pub returns-clause-on : goal.returns-clause-on
returns-clause-on c =
    let e = c.in_ok-reply.ensures in
    kept_on c.args.self.now _ c.requires.search e.start e.edge e.target (ap (λ v. v.items) e.list)

pub returns-clause-other : goal.returns-clause-other
returns-clause-other c = λ is.
    let e = c.in_ok-reply.ensures in
    not_same c.in_ok-reply.reply c.args.self.now.reply _ e.reply
    (ap (is_same_reply c.in_ok-reply.reply) (sym e.target) ∙ sym c.is_same.ensures
    ∙ c.if-is_same.false)
