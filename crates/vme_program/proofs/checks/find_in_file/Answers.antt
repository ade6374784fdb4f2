use Rattle.std.proofs.Common.{None}
use Rattle.std.proofs.lemmas.Result.{err_from_is_err_and}
use Rattle.vme_program.proofs.CheckedFiles.{file_found, file_unopened}
use Rattle.vme_program.proofs.checks.find_in_file.Goals as goal

pub returns-in_err-input : goal.returns-in_err-input
returns-in_err-input c =
    let e = err_from_is_err_and c.from_residual.result c.from_residual.ensures.1 in
    λ p short is. rw (e.1, e.2) (file_unopened c.args.trace c.in_err-input.field-0.0 c.in_err-input.ensures p)

pub returns : goal.returns
returns c = λ p short is. rw c.answer_of_trace.ensures (file_found c.args.text.now c.args.scenario c.args.trace None None c.finding_of.result c.finding_of.ensures p short is)
