use Rattle.std.proofs.Common.{rules, ◌≡◌, ◌∙◌, ap, refl, subst, arith, length}
use Rattle.vme_order_search.specs.declared.layers.Layer.{Layer}
use Rattle.vme_order_search.specs.Searching.{HasGoneOn}
use Rattle.vme_order_search.proofs.Searched.{all_longer, begins, cut_layer, cut_longer}
use Rattle.vme_order_search.proofs.search.Search.lengthen.Goals as goal

pub loop-index-init : goal.loop-index-init
loop-index-init c = (
  search rules,
  refl,
  refl,
  λ t n eq eqs h. begins t n c.args.self.now c.clear.new.self h c.clear.ensures.empty,
)

pub loop-index-preserved : goal.loop-index-preserved
loop-index-preserved c =
    let same = c.in_ok-go_on.ensures.same in
    let was = c.loop-index.invariant in (
      c.in_ok-go_on.ensures.fit,
      same.0 ∙ was.1,
      same.1 ∙ was.2,
      λ t n eq eqs h. subst (λ r. HasGoneOn t n c.loop-index.index c.go_on.new.self r) c.in-Enough.is
          (c.in_ok-go_on.ensures.kept t n c.loop-index.index eq eqs (record { there = c.get-front.ensures; made = was.3 t n eq eqs h })),
    )

pub returns-in-Lacking-clause-layer : goal.returns-in-Lacking-clause-layer
returns-in-Lacking-clause-layer c t n eq eqs h =
    let was = c.loop-index.invariant in
    let cut = subst (λ r. HasGoneOn t n c.loop-index.index c.go_on.new.self r) c.in-Lacking.is
    (c.in_ok-go_on.ensures.kept t n c.loop-index.index eq eqs (record { there = c.get-front.ensures; made = was.3 t n eq eqs h })) in
    cut_layer t n c.loop-index.index cut.0.0 c.go_on.new.self cut.0.1 cut.1

pub returns-in-Lacking-clause-longer : goal.returns-in-Lacking-clause-longer
returns-in-Lacking-clause-longer c t n eq eqs h =
    let was = c.loop-index.invariant in
    let cut = subst (λ r. HasGoneOn t n c.loop-index.index c.go_on.new.self r) c.in-Lacking.is
    (c.in_ok-go_on.ensures.kept t n c.loop-index.index eq eqs (record { there = c.get-front.ensures; made = was.3 t n eq eqs h })) in
    cut_longer t n c.loop-index.index cut.0.0 c.go_on.new.self cut.0.1

pub returns-clause-longer : goal.returns-clause-longer
returns-clause-longer c t n eq eqs h =
    let was = c.loop-index.invariant in
    let kept : length c.loop-index.self.layer.kept.items ≡ length c.args.self.now.layer.kept.items =
    ap (λ (l : Layer). length l.kept.items) was.1 in
    all_longer t n c.loop-index.index 0 c.loop-index.self (was.3 t n eq eqs h) (omega arith)
