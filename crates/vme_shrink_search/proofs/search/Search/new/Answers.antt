use Rattle.std.proofs.Common.{◌∙◌, ap, subst, sym}
use Rattle.vme_model.specs.Report.{at_power_up, trace_limit}
use Rattle.vme_model.specs.Verdict.{State}
use Rattle.vme_shrink_search.specs.Leading.{LeadsTo}
use Rattle.vme_shrink_search.specs.Replies.{reply_at}
use Rattle.vme_shrink_search.proofs.Searches.{begins}
use Rattle.vme_shrink_search.proofs.search.Search.new.Goals as goal

pub reply_behind-reply-requires : goal.reply_behind-reply-requires
reply_behind-reply-requires c =
    subst (λ l. LeadsTo l c.front.inside.bus) (sym c.deref.ensures.value) c.front.invariant

pub returns-clause-search : goal.returns-clause-search
returns-clause-search c =
    let state = c.reply_behind-reply.ensures.state in
    begins (record {
      bus = c.reply_behind-reply.new.bus;
      edge = c.args.edge;
      reply = c.reply_behind-reply.result;
      list = c.front.inside.edges;
      other = c.new.result;
    }) (subst (LeadsTo c.front.inside.edges.items) (sym state) c.front.invariant)
    (c.reply_behind-reply.ensures.reply ∙ ap (λ (s : State). reply_at s c.args.edge) (sym state))

pub returns-clause-start : goal.returns-clause-start
returns-clause-start c =
    ap (λ (s : State). at_power_up s.version s.plan trace_limit)
    (c.reply_behind-reply.ensures.state ∙ c.front.view_is)
