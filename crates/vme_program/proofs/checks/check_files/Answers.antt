use Rattle.std.proofs.Common.{[], Ok, subst, sym, arith}
use Rattle.std.proofs.lemmas.Result.{err_from_is_err_and}
use Rattle.vme_command_line.specs.Asked.{texts_of}
use Rattle.vme_program.specs.CheckingFiles.{ChecksAll}
use Rattle.vme_program.specs.declared.checks.Seen.{Seen}
use Rattle.vme_program.proofs.CheckedFiles.{all_checked, file_cut, file_more, names_next, none_checked}
use Rattle.vme_program.proofs.checks.check_files.Goals as goal

pub loop-trace-init : goal.loop-trace-init
loop-trace-init g c = λ p short is. subst (λ (s : Seen). ChecksAll [] (g.W.Write.contents c.args.out.now) (g.W.Write.contents c.args.out.now) (Ok s) p) (sym c.new-seen.ensures) (none_checked p _)

pub loop-trace-preserved : goal.loop-trace-preserved
loop-trace-preserved g c = λ p short is.
    file_more p (texts_of c.args.traces.now) c.loop-trace.trace-index _ c.loop-trace.seen (g.W.Write.contents c.args.out.now) (g.W.Write.contents c.loop-trace.out)
    (g.W.Write.contents c.check_file.new.out)
    (names_next c.args.traces.now c.loop-trace.trace-index _ c.loop-trace-test.true) (c.loop-trace.invariant p short is) c.check_file.new.seen (c.in_ok-check_file.ensures p short is)

pub returns-in_err-check_file : goal.returns-in_err-check_file
returns-in_err-check_file g c = λ p short is.
    let e = err_from_is_err_and c.from_residual.result c.from_residual.ensures.1 in
    rw (e.1, e.2)
    (file_cut p (texts_of c.args.traces.now) c.loop-trace.trace-index _ c.loop-trace.seen (g.W.Write.contents c.args.out.now) (g.W.Write.contents c.loop-trace.out)
    (g.W.Write.contents c.check_file.new.out)
    (names_next c.args.traces.now c.loop-trace.trace-index _ c.loop-trace-test.true) (c.loop-trace.invariant p short is) c.check_file.new.seen c.in_err-check_file.field-0.0
    (c.in_err-check_file.ensures p short is))

pub returns : goal.returns
returns g c = λ p short is.
    all_checked p c.args.traces.now c.loop-trace.trace-index c.loop-trace.seen (g.W.Write.contents c.args.out.now) (g.W.Write.contents c.loop-trace.out) (omega (arith, c.loop-trace-test.false))
    (c.loop-trace.invariant p short is)
