use Rattle.std.proofs.Common.{◌≡◌, ◌-◌, None, arith, drop, length, rules, subst, sym}
use Rattle.vme_same.proofs.Lists.{HasGone, gone_all, gone_more, gone_none}
use Rattle.vme_same.proofs.rest.Rest.walk.Goals as goal

pub returns-then-place-eq0-clause-back : goal.returns-then-place-eq0-clause-back
returns-then-place-eq0-clause-back c = λ v p taken at is legal.
    let items = c.args.self.now.edges.items in
    let front : c.args.place ≡ 0 = search rules in
    gone_all v p taken c.args.edge.now items c.args.place at c.args.self.now.behind None legal
    (subst (λ n. HasGone v p taken c.args.edge.now (drop (length items - n) items)
    c.args.self.now.behind None) (sym front)
    (gone_none v p taken c.args.edge.now items c.args.self.now.behind is))

pub loop-before-init : goal.loop-before-init
loop-before-init c = record {
  gone = λ v p taken is legal.
      gone_none v p taken c.args.edge.now c.args.self.now.edges.items c.args.self.now.behind is;
  formed = search rules;
}

pub loop-before-preserved : goal.loop-before-preserved
loop-before-preserved c = record {
  gone = λ v p taken is legal.
      gone_more v p taken c.args.edge.now c.args.self.now.edges.items c.loop-before.before
      c.at-left.result.now c.loop-before.state c.note.new.self c.loop-before.stop c.go_over-stop.result
      c.at-left.ensures legal (c.loop-before.invariant.gone v p taken is legal)
      c.go_over-stop.ensures.back
      (λ w q h is. c.note.ensures w q h (c.go_over-stop.ensures.state w q h is));
  formed = c.go_over-stop.ensures.formed c.loop-before.invariant.formed;
}

pub returns-clause-back : goal.returns-clause-back
returns-clause-back c = λ v p taken at is legal.
    let whole : c.loop-before.before ≡ c.args.place = omega arith in
    gone_all v p taken c.args.edge.now c.args.self.now.edges.items c.args.place at
    c.loop-before.state c.loop-before.stop legal
    (subst (λ n. HasGone v p taken c.args.edge.now
    (drop (length c.args.self.now.edges.items - n) c.args.self.now.edges.items)
    c.loop-before.state c.loop-before.stop) whole (c.loop-before.invariant.gone v p taken is legal))

pub returns-clause-formed : goal.returns-clause-formed
returns-clause-formed c = c.loop-before.invariant.formed
