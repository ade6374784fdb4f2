use Rattle.std.proofs.Common.{◌<◌, ◌+◌, ◌∷◌, [], All, length, sym, subst}
use Rattle.std.proofs.lemmas.List.Elements.{All-append}
use Rattle.vme_order_search.proofs.Next.{AreNextBelow, all_one, next_whole, one_next}
use Rattle.vme_order_search.proofs.free.next_places.Goals as goal

pub places-preserved : goal.places-preserved
places-preserved c =
    let place = c.in-Some.place in
    let seen = c.args.seen.now in
    let items = c.in-Ok.ensures.items in (
      subst (λ l. All (λ p. p < length seen) l) (sym items)
          (All-append (λ p. p < length seen) c.places.places.items (place ∷ []) c.places.invariant.0
          (all_one (λ p. p < length seen) place c.in-Some.ensures.within)),
      λ places takes.
          let next = c.in-Some.ensures.next places takes in
          subst (λ l. AreNextBelow c.args.slacks.now seen places l (place + 1)) (sym items)
          (one_next c.args.slacks.now seen places c.places.places.items c.places.from place
          (c.places.invariant.1 places takes) next.0 next.1 next.2),
    )

pub returns-clause-next : goal.returns-clause-next
returns-clause-next c places takes =
    next_whole c.args.slacks.now c.args.seen.now places c.places.places.items c.places.from
    (c.places.invariant.1 places takes) (c.in_default.ensures.next places takes)
