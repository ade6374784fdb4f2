use Rattle.std.proofs.Common.{arith}
use Rattle.std.proofs.lemmas.Result.{err_from_is_err_and}
use Rattle.vme_command_line.specs.Asked.{texts_of}
use Rattle.vme_program.proofs.Adding.{all_added, none_added, one_added, one_cut}
use Rattle.vme_program.proofs.CheckedFiles.{names_next}
use Rattle.vme_program.proofs.sums.add_files.Goals as goal

pub loop-trace-init : goal.loop-trace-init
loop-trace-init g c = λ p short is. none_added p _ c.new-added.result c.new-added.ensures.sums c.new-added.ensures.traces c.new-added.ensures.faulty

pub loop-trace-preserved : goal.loop-trace-preserved
loop-trace-preserved g c = λ p short is.
    one_added p (texts_of c.args.traces.now) c.loop-trace.trace-index _ c.loop-trace.added (g.W.Write.contents c.args.out.now) (g.W.Write.contents c.loop-trace.out)
    (g.W.Write.contents c.add_file.new.out)
    (names_next c.args.traces.now c.loop-trace.trace-index _ c.loop-trace-test.true) (c.loop-trace.invariant p short is) c.add_file.new.added (c.in_ok-add_file.ensures p short is)

pub returns-in_err-add_file : goal.returns-in_err-add_file
returns-in_err-add_file g c = λ p short is.
    let e = err_from_is_err_and c.from_residual.result c.from_residual.ensures.1 in
    rw (e.1, e.2)
    (one_cut p (texts_of c.args.traces.now) c.loop-trace.trace-index _ c.loop-trace.added (g.W.Write.contents c.args.out.now) (g.W.Write.contents c.loop-trace.out)
    (g.W.Write.contents c.add_file.new.out)
    (names_next c.args.traces.now c.loop-trace.trace-index _ c.loop-trace-test.true) (c.loop-trace.invariant p short is) c.add_file.new.added c.in_err-add_file.field-0.0
    (c.in_err-add_file.ensures p short is))

pub returns : goal.returns
returns g c = λ p short is.
    all_added p c.args.traces.now c.loop-trace.trace-index c.loop-trace.added (g.W.Write.contents c.args.out.now) (g.W.Write.contents c.loop-trace.out) (omega (arith, c.loop-trace-test.false))
    (c.loop-trace.invariant p short is)
