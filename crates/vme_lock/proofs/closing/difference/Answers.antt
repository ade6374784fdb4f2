use Rattle.std.proofs.Common.{arith, sym, ap, ◌∙◌}
use Rattle.std.proofs.lemmas.List.{take_all, length-reverse}
use Rattle.vme_model.specs.History.{in_order}
use Rattle.vme_lock.proofs.LogDifference.{own, went_on, passed, stopped, ends}
use Rattle.vme_lock.proofs.closing.difference.Goals as goal
use Rattle.vme_lock.proofs.closing.difference.Goals.{then-is_same+else-not-stands_at, else-is_same}

pub returns-then-not-stands_at : goal.returns-then-not-stands_at
returns-then-not-stands_at c =
    let kept = c.loop-place.invariant in
    let by = sym c.is_same.ensures ∙ c.if-is_same.true in
    stopped (in_order c.args.backplane.now.history) c.args.log.now c.args.driver c.loop-place.place c.loop-place.at c.edge_at-edge.result
    c.edge_at-edge.ensures by kept.0 kept.1 c.if-not-stands_at.ensures

pub loop-place-preserved : goal.loop-place-preserved
loop-place-preserved c =
    let xs = in_order c.args.backplane.now.history in
    let log = c.args.log.now in
    let d = c.args.driver in
    let e = c.edge_at-edge.result in
    let i = c.loop-place.place in
    let at = c.loop-place.at in
    let kept = c.loop-place.invariant in
    elim c.if-is_same.branch [
      | then-is_same+else-not-stands_at w ↦
          let by = sym c.is_same.ensures ∙ w.if-is_same.true in
          let on = went_on xs log d i at e c.edge_at-edge.ensures by kept.0 w.if-not-stands_at.ensures in
          rw w.at-is (on.0, on.1, omega (arith, kept.2))
      | else-is_same w ↦
          let by = sym c.is_same.ensures ∙ w.if-is_same.false in
          rw w.at-is (passed xs log d i at e c.edge_at-edge.ensures by kept.0, kept.1, omega (arith, kept.2))
    ]

pub returns-else-at-len : goal.returns-else-at-len
returns-else-at-len c =
    let h = c.args.backplane.now.history in
    let kept = c.loop-place.invariant in
    let all = take_all c.loop-place.place (in_order h) (omega (arith, c.len-place-end.ensures, length-reverse h)) in
    ends (own c.args.driver (in_order h)) c.args.log.now c.loop-place.at (ap (own c.args.driver) (sym all) ∙ kept.0) (omega (arith, kept.1, c.len-len.ensures))
