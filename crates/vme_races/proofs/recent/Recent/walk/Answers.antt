use Rattle.std.proofs.Common.{◌≡◌, ◌∙◌, ◌+◌, ◌<◌, ◌∷◌, ap, arith, drop, length, rules, subst, sym}
use Rattle.std.proofs.lemmas.List.{drop_more}
use Rattle.vme_races.proofs.Passed.{IsBack, back_ends, back_first, back_more, back_stops, held_here}
use Rattle.vme_races.proofs.recent.Recent.walk.Goals as goal

pub loop-place-init : goal.loop-place-init
loop-place-init c = λ v p k last on legal.
    (back_first v p c.args.edge.now k c.args.self.now.edges.items last.held legal, on)

pub loop-place-preserved : goal.loop-place-preserved
loop-place-preserved c = λ v p k last on legal.
    let items = c.args.self.now.edges.items in
    let place = c.loop-place.place in
    let a = c.index-earlier.result.now in
    let within : place < length items = search rules in
    let here = c.loop-place.invariant v p k last on legal in
    let back = subst (IsBack v p c.args.edge.now k place c.loop-place.since)
    (drop_more items place a within ∙ ap (λ x. x ∷ drop (place + 1) items) (sym c.index-earlier.ensures))
    here.0 in (
      back_more v p c.args.edge.now k place a (drop (place + 1) items) c.loop-place.state here.1
          c.loop-place.since back c.in_default.ensures.passes,
      (let held = held_here v p c.args.edge.now k place a (drop (place + 1) items) c.loop-place.since back in
          c.in_default.ensures.plan v p held.0 here.1 held.1),
    )

pub returns-in-Some-clause-walk : goal.returns-in-Some-clause-walk
returns-in-Some-clause-walk c = λ v p k last on legal.
    let items = c.args.self.now.edges.items in
    let place = c.loop-place.place in
    let a = c.index-earlier.result.now in
    let within : place < length items = search rules in
    let count = last.count in
    let here = c.loop-place.invariant v p k last on legal in
    back_stops v p c.args.edge.now k place a (drop (place + 1) items) c.loop-place.state here.1
    c.loop-place.since c.in-Some.stop
    (subst (IsBack v p c.args.edge.now k place c.loop-place.since)
    (drop_more items place a within ∙ ap (λ x. x ∷ drop (place + 1) items) (sym c.index-earlier.ensures))
    here.0)
    (omega (arith, within, count)) c.in-Some.ensures.stops

pub returns-clause-walk : goal.returns-clause-walk
returns-clause-walk c = λ v p k last on legal.
    let here = c.loop-place.invariant v p k last on legal in
    let whole : c.loop-place.place ≡ c.len.result = omega arith in
    back_ends v p c.args.edge.now k c.args.self.now last c.len.result c.loop-place.since
    c.end-stop.result (drop c.loop-place.place c.args.self.now.edges.items)
    (subst (λ n. IsBack v p c.args.edge.now k n c.loop-place.since
    (drop c.loop-place.place c.args.self.now.edges.items)) whole here.0)
    (search rules) c.end-stop.ensures

pub returns-in-Some-clause-plan : goal.returns-in-Some-clause-plan
returns-in-Some-clause-plan c = λ v p k last on legal.
    let items = c.args.self.now.edges.items in
    let place = c.loop-place.place in
    let a = c.index-earlier.result.now in
    let within : place < length items = search rules in
    let here = c.loop-place.invariant v p k last on legal in
    let held = held_here v p c.args.edge.now k place a (drop (place + 1) items) c.loop-place.since
    (subst (IsBack v p c.args.edge.now k place c.loop-place.since)
    (drop_more items place a within ∙ ap (λ x. x ∷ drop (place + 1) items) (sym c.index-earlier.ensures))
    here.0) in
    c.in-Some.ensures.plan v p held.0 here.1 held.1

pub returns-clause-plan : goal.returns-clause-plan
returns-clause-plan c = λ v p k last on legal. (c.loop-place.invariant v p k last on legal).1
