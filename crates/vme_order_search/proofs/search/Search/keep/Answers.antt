use Rattle.std.proofs.Common.{◌∙◌, ◌+◌, inr, ap, subst, sym}
use Rattle.vme_order_search.specs.declared.search.Search.{Search}
use Rattle.vme_order_search.specs.Searching.{HasTried, IsUnderWay}
use Rattle.vme_order_search.proofs.Searched.{grown_new, grown_same, in_room, like_kept, many_sets}
use Rattle.vme_order_search.proofs.search.Search.keep.Goals as goal

pub returns-in-Kind-clause-kept : goal.returns-in-Kind-clause-kept
returns-in-Kind-clause-kept c t n m at goes =
    let f = c.in-Kind.ensures in
    like_kept t n m c.args.place f.0 c.args.self.now c.args.front.now f.1 c.with-taken.result
    c.to_kind-bus.result at.made at.there f.2 f.3 f.4 c.with-taken.ensures.places (sym c.to_kind-bus.ensures) goes

pub returns-in_ok-push-in-Places-clause-kept : goal.returns-in_ok-push-in-Places-clause-kept
returns-in_ok-push-in-Places-clause-kept c t n m at goes =
    grown_same t n m c.args.place c.args.self.now c.push.new.self c.args.front.now c.with-taken.result
    c.to_kind-bus.result at.made at.there c.in_ok-push-in-Places.ensures.grown c.with-taken.ensures.places
    (sym c.to_kind-bus.ensures) goes

pub returns-in-Nothing-clause-kept : goal.returns-in-Nothing-clause-kept
returns-in-Nothing-clause-kept c t n m at goes =
    in_room c.keep_new.result (HasTried t n m c.args.place c.keep_new.new.self)
    (λ is.
    let g = c.keep_new.ensures.grown is in
    subst (λ (x : Search). IsUnderWay t n m (c.args.place + 1) x) (sym g.2)
    (grown_new t n m c.args.place c.args.self.now g.0 c.args.front.now c.with-taken.result
    c.to_kind-bus.result at.made at.there g.1 c.in-Nothing.ensures c.with-taken.ensures.places
    (sym c.to_kind-bus.ensures) goes))
    (λ is.
    let g = c.keep_new.ensures.full is in (
      subst (λ (x : Search). IsUnderWay t n m c.args.place x) (sym g.0) at.made,
      λ width. inr (many_sets t n m c.args.place c.args.self.now c.args.front.now c.with-taken.result at.made
          at.there c.in-Nothing.ensures c.with-taken.ensures.places goes g.1
          (ap (λ (x : Search). x.width) (sym g.0) ∙ width)),
    ))
