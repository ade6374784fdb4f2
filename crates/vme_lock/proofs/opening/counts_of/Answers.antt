use Rattle.std.proofs.Common.{arith, sym, ◌∙◌, subst}
use Rattle.std.proofs.lemmas.List.{take_all, length-reverse}
use Rattle.vme_model.specs.History.{in_order}
use Rattle.vme_lock.specs.Seats.{AreCounts}
use Rattle.vme_lock.proofs.DeskCounts.{counted_next, counted_past, AreCounts-in_order}
use Rattle.vme_lock.proofs.opening.counts_of.Goals as goal
use Rattle.vme_lock.proofs.opening.counts_of.Goals.{in-Some, in-None}

pub loop-place-preserved : goal.loop-place-preserved
loop-place-preserved c =
    let xs = in_order c.args.backplane.now.history in
    let i = c.loop-place.place in
    let e = c.edge_at-driver.result in
    elim c.match-desk_of.branch [
      | in-Some w ↦ rw w.counts-is (counted_next c.loop-place.counts xs i w.in-Some.desk e c.loop-place.invariant c.edge_at-driver.ensures (sym c.desk_of.ensures ∙ w.in-Some.is))
      | in-None w ↦ rw w.counts-is (counted_past c.loop-place.counts xs i e c.loop-place.invariant c.edge_at-driver.ensures (sym c.desk_of.ensures ∙ w.in-None.is))
    ]

pub returns : goal.returns
returns c =
    let h = c.args.backplane.now.history in
    let all = take_all c.loop-place.place (in_order h) (omega (arith, c.len-place-end.ensures, length-reverse h)) in
    AreCounts-in_order c.loop-place.counts h (subst (AreCounts c.loop-place.counts) all c.loop-place.invariant)
