use Rattle.vme_order_search.proofs.Outcomes.{answer, next_in, whole_in, within_in}
use Rattle.vme_order_search.proofs.search.Search.found.Goals as goal

pub returns-clause-found : goal.returns-clause-found
returns-clause-found c t n eq eqs ended whole =
    answer t n c.args.self.now c.get-first.result _ ended (whole_in t n c.args.seen.now _ eq whole)
    c.get-first.ensures c.in_ok-beginning.ensures.path
    (λ places takes. next_in t c.args.slacks.now c.args.seen.now places _ eq eqs
    (c.in_ok-next_places.ensures.next places takes))
    (within_in t c.args.seen.now _ eq c.in_ok-next_places.ensures.within)
