use Rattle.std.proofs.Common.{arith, List, length, get_or, refl, sym, subst, ◌+◌, ◌∙◌}
use Rattle.std.proofs.lemmas.List.{length-set, take_all, length-reverse}
use Rattle.std.proofs.lemmas.Option.{slice_get_read}
use Rattle.vme_model.specs.declared.signals.Edge.{Edge}
use Rattle.vme_model.specs.History.{in_order}
use Rattle.vme_lock.specs.Following.{AreFronts}
use Rattle.vme_lock.proofs.OnePass.{fronts_more, end_within}
use Rattle.vme_lock.proofs.following.followed.Goals as goal

pub overflow_add-ends : goal.overflow_add-ends
overflow_add-ends c =
    let logs = c.args.logs.now in
    let xs = in_order c.args.backplane.now.history in
    let found = c.in_ok-log.ensures.lookup in
    let mine = slice_get_read logs (length logs) _ c.in_ok-log.log.now refl found.3.0 found.1 in
    let desk_is = sym c.desk_of.ensures ∙ c.in_ok-desk.was in
    let log = c.in_ok-log.log.now in
    let most = end_within xs c.args.numbers.now c.loop-place.ends logs c.loop-place.place c.in_ok-desk.desk c.edge_at-edge.result log c.loop-place.invariant.1 in
    omega (arith, most c.edge_at-edge.ensures desk_is mine)

pub loop-place-preserved : goal.loop-place-preserved
loop-place-preserved c =
    let logs = c.args.logs.now in
    let xs = in_order c.args.backplane.now.history in
    let ends = c.loop-place.ends in
    let at = c.in_ok-desk.desk in
    let kept = c.loop-place.invariant in
    let found = c.in_ok-log.ensures.lookup in
    let mine = slice_get_read logs (length logs) _ c.in_ok-log.log.now refl found.3.0 found.1 in
    let desk_is = sym c.desk_of.ensures ∙ c.in_ok-desk.was in
    let more = fronts_more xs c.args.numbers.now ends logs c.loop-place.place at c.edge_at-edge.result c.in_ok-log.log.now kept.1 c.edge_at-edge.ensures desk_is mine in
    (length-set ends at (get_or ends at 0 + 1) ∙ kept.0, more kept.0 c.if-not-stands_at.ensures)

pub returns : goal.returns
returns c =
    let h = c.args.backplane.now.history in
    let all = take_all c.loop-place.place (in_order h) (omega (arith, c.len-place-end.ensures, length-reverse h)) in
    subst (λ (l : List Edge). AreFronts l c.args.numbers.now c.args.logs.now c.loop-place.ends) all c.loop-place.invariant.1
