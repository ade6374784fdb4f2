use Rattle.vme_program.proofs.Adding.{SoFar}
use Rattle.vme_program.proofs.jobs.add_files.Given as goal

abbrev pub invariant-loop-trace : goal.invariant-loop-trace
invariant-loop-trace l = SoFar l.text l.trace-index l.sums
