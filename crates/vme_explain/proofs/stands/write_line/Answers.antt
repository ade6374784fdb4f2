use Rattle.std.proofs.Common.{◌∷◌, []}
use Rattle.vme_trace.specs.Writing.{AppendsFront}
use Rattle.vme_explain.proofs.Written.{at_err, front_behind, front_of_more, on_err}
use Rattle.vme_explain.proofs.stands.write_line.Goals as goal

pub returns-in_err-put-clause-front : goal.returns-in_err-put-clause-front
returns-in_err-put-clause-front g c =
    let h = rw c.as_slice.ensures.value at c.in_err-put.ensures.front in
    on_err c.from_residual.result _ (front_of_more _ _ c.args.line.now.items (10 ∷ []) h)

pub returns-clause-front : goal.returns-clause-front
returns-clause-front g c =
    let h = rw c.as_slice.ensures.value at c.in_ok-put.ensures.ok in
    at_err c.put-2.result (AppendsFront (g.W.Write.contents c.put.new.out) (g.W.Write.contents c.put-2.new.out) (10 ∷ [])) _
    (λ f. front_behind _ _ _ c.args.line.now.items (10 ∷ []) h f) c.put-2.ensures.front
