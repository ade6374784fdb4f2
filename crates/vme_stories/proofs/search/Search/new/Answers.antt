use Rattle.vme_stories.proofs.Searches.{begins}
use Rattle.vme_stories.proofs.search.Search.new.Goals as goal

pub returns-clause-search : goal.returns-clause-search
returns-clause-search c =
    begins (record {
      behind = c.front.inside.behind;
      edge = c.args.edge;
      reply = c.reply-reply.result;
      list = c.front.inside.edges;
      other = c.new.result;
    }) c.front.invariant c.reply-reply.ensures
