use Rattle.vme_trace.proofs.WrittenLines.{first_front, on_err, on_err_map, second_front}
use Rattle.vme_cycles.proofs.judge.write_both.Goals as goal

pub returns-in_err-put-clause-front : goal.returns-in_err-put-clause-front
returns-in_err-put-clause-front g c =
    on_err c.from_residual.result _ (first_front _ _ c.args.first.now.items c.args.second.now.items (rw (c.as_slice.ensures.value) at c.in_err-put.ensures.front))

pub returns-clause-front : goal.returns-clause-front
returns-clause-front g c =
    on_err_map c.put-2.result _ _ (second_front _ (g.W.Write.contents c.put.new.out) _ c.args.first.now.items c.args.second.now.items (rw (c.as_slice.ensures.value) at c.in_ok-put.ensures.ok))
    (rw (c.as_slice-2.ensures.value) at c.put-2.ensures.front)
