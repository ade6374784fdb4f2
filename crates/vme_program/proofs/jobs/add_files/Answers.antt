use Rattle.vme_program.proofs.Adding.{one_more}
use Rattle.vme_program.proofs.jobs.add_files.Goals as goal

pub loop-trace-preserved : goal.loop-trace-preserved
loop-trace-preserved c = one_more c.args.text.now c.loop-trace.sums c.add_file.new.sums c.loop-trace.trace-index c.in_ok-add_file.ensures c.loop-trace.invariant
