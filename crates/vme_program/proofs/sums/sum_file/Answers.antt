use Rattle.std.proofs.Common.{None, refl}
use Rattle.std.proofs.lemmas.Result.{err_from_is_err_and}
use Rattle.vme_program.proofs.Adding.{file_added, file_missing}
use Rattle.vme_program.proofs.sums.sum_file.Goals as goal

pub returns-in_err-input : goal.returns-in_err-input
returns-in_err-input c =
    let e = err_from_is_err_and c.from_residual.result c.from_residual.ensures.1 in
    λ p short is. rw (e.1, e.2) (refl, file_missing c.args.trace c.in_err-input.field-0.0 c.in_err-input.ensures p)

pub returns : goal.returns
returns c = λ p short is.
    rw c.answer_of_trace.ensures
    (file_added c.args.text.now c.args.scenario c.args.trace c.args.sums.now c.add_trace.new.sums None None c.add_trace.result c.add_trace.ensures.adds c.add_trace.ensures.kept p short is)
