use Rattle.std.proofs.Common.{◌≡◌, ◌∙◌, ◌≤◌, true, Some, ap, refl, subst, sym, arith, length}
use Rattle.std.specs.List.{slice_get}
use Rattle.vme_order_search.specs.declared.layers.Layer.{Layer}
use Rattle.vme_order_search.specs.Places.{AreUnfree}
use Rattle.vme_order_search.specs.Searching.{HasTried, IsAt, IsUnderWay}
use Rattle.vme_order_search.proofs.Next.{below_unfree}
use Rattle.vme_order_search.proofs.Outcomes.{free_in, unfree_in}
use Rattle.vme_order_search.proofs.Searched.{next_front, unfree_to}
use Rattle.vme_order_search.proofs.search.Search.go_on.Goals as goal

pub places-init : goal.places-init
places-init c = (
  c.requires.fit,
  (refl, refl, refl),
  λ t n m eq eqs here. record {
    there = here.there;
    made = subst (λ k. IsUnderWay t n m k c.args.self.now) (sym c.least-from.ensures)
        (unfree_to t n m 0 c.args.front.now.taken.least c.args.self.now c.args.front.now here.made here.there
        (let e : 0 ≤ c.args.front.now.taken.least = omega arith in e)
        (λ q takes. below_unfree t.slacks t.seen q c.args.front.now.taken takes));
  },
)

pub places-preserved : goal.places-preserved
places-preserved c =
    let same = c.in_ok-try_place.ensures.same in
    let was = c.places.invariant.1 in (
      c.in_ok-try_place.ensures.fit,
      (same.0 ∙ was.0, same.1 ∙ was.1, same.2 ∙ was.2),
      λ t n m eq eqs here.
          let under = c.places.invariant.2 t n m eq eqs here in
          let next = c.in-Some.ensures.next in
          let from_place : IsAt t n m c.in-Some.place c.args.front.now c.places.self = record {
            there = under.there;
            made = unfree_to t n m c.places.from c.in-Some.place c.places.self c.args.front.now under.made under.there
                c.in-Some.ensures.behind
                (λ q takes. unfree_in t c.args.slacks.now c.args.seen.now q c.places.from c.in-Some.place eq eqs
                (next q takes).2);
          } in
          record {
            there = ap (λ (l : Layer). slice_get l.kept.items m) same.0 ∙ under.there;
            made = subst (λ r. HasTried t n m c.in-Some.place c.try_place.new.self r) c.in-Enough.is
                (c.in_ok-try_place.ensures.kept t n m eq from_place
                (λ q takes. free_in t c.args.slacks.now c.args.seen.now q c.in-Some.place eq eqs (next q takes).1));
          },
    )

pub returns-in-Lacking-clause-kept : goal.returns-in-Lacking-clause-kept
returns-in-Lacking-clause-kept c t n m eq eqs here =
    let under = c.places.invariant.2 t n m eq eqs here in
    let next = c.in-Some.ensures.next in
    let from_place : IsAt t n m c.in-Some.place c.args.front.now c.places.self = record {
      there = under.there;
      made = unfree_to t n m c.places.from c.in-Some.place c.places.self c.args.front.now under.made under.there
          c.in-Some.ensures.behind
          (λ q takes. unfree_in t c.args.slacks.now c.args.seen.now q c.places.from c.in-Some.place eq eqs
          (next q takes).2);
    } in
    let cut = subst (λ r. HasTried t n m c.in-Some.place c.try_place.new.self r) c.in-Lacking.is
    (c.in_ok-try_place.ensures.kept t n m eq from_place
    (λ q takes. free_in t c.args.slacks.now c.args.seen.now q c.in-Some.place eq eqs (next q takes).1)) in
    ((c.in-Some.place, cut.0), cut.1)

pub returns-in_default-clause-kept : goal.returns-in_default-clause-kept
returns-in_default-clause-kept c t n m eq eqs here =
    let under = c.places.invariant.2 t n m eq eqs here in
    next_front t n m c.places.from c.places.self c.args.front.now under.made under.there
    (λ q takes. subst (λ k. AreUnfree t.slacks t.seen q c.places.from k) (ap length (sym eq)) (unfree_in t c.args.slacks.now c.args.seen.now q
    c.places.from (length c.args.seen.now) eq eqs (c.in_default.ensures.next q takes)))

pub returns-clause-kept : goal.returns-clause-kept
returns-clause-kept c t n m eq eqs here =
    let done : c.is_done.result ≡ true = c.places-test.false in (
      (c.places.from, (c.places.invariant.2 t n m eq eqs here).made),
      λ full. absurd (c.is_done.ensures done full),
    )
