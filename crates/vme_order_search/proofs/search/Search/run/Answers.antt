use Rattle.std.proofs.Common.{◌≡◌, ◌∙◌, ◌<◌, ◌+◌, ap, subst, sym, arith, length}
use Rattle.vme_order_search.specs.declared.layers.Layer.{Layer}
use Rattle.vme_order_search.specs.Searching.{HasEnded}
use Rattle.vme_order_search.proofs.Outcomes.{ended_here, ended_whole}
use Rattle.vme_order_search.proofs.search.Search.run.Goals as goal

pub returns-then-is_empty-clause-ended : goal.returns-then-is_empty-clause-ended
returns-then-is_empty-clause-ended g c t eq eqs h =
    let layer = c.loop-length.invariant.3 t eq eqs h in
    let e : length t.seen ≡ length c.args.seen.now = ap length eq in
    ended_here t c.loop-length.length c.lengthen.new.self
    (c.in_ok-lengthen.ensures.layer t c.loop-length.length eq eqs layer)
    (c.in_ok-lengthen.ensures.longer t c.loop-length.length eq eqs layer)
    (let lt : c.loop-length.length < length t.seen = omega arith in lt)
    (c.is_empty.ensures.none c.if-is_empty.true)

pub loop-length-preserved : goal.loop-length-preserved
loop-length-preserved g c = (
  c.in_ok-drop_others.ensures.fit,
  c.in_ok-drop_others.ensures.some
      (subst (λ (l : Layer). 0 < length l.kept.items) (sym c.advance.ensures.kept)
      (c.is_empty.ensures.some c.if-is_empty.false)),
  c.in_ok-drop_others.ensures.width ∙ c.advance.ensures.width ∙ c.in_ok-lengthen.ensures.width
      ∙ c.loop-length.invariant.2,
  λ t eq eqs h.
      let layer = c.loop-length.invariant.3 t eq eqs h in
      c.in_ok-drop_others.ensures.layer t (c.loop-length.length + 1)
      (c.advance.ensures.layer t c.loop-length.length
      (c.in_ok-lengthen.ensures.layer t c.loop-length.length eq eqs layer)
      (c.in_ok-lengthen.ensures.longer t c.loop-length.length eq eqs layer)),
)

pub returns-clause-ended : goal.returns-clause-ended
returns-clause-ended g c t eq eqs h =
    let e : length t.seen ≡ length c.args.seen.now = ap length eq in
    let n : c.loop-length.length ≡ length c.args.seen.now = omega arith in
    subst (λ k. HasEnded t k c.loop-length.self) n (ended_whole t c.loop-length.length c.loop-length.self
    (c.loop-length.invariant.3 t eq eqs h) (n ∙ sym e))
