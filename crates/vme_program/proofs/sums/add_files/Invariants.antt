use Rattle.std.proofs.Common.{Ok, take}
use Rattle.vme_command_line.specs.Asked.{texts_of}
use Rattle.vme_program.specs.Adding.{TakesAll}
use Rattle.vme_program.specs.CheckingFiles.{OnPlan}
use Rattle.vme_program.proofs.sums.add_files.Given as goal

abbrev pub invariant-loop-trace : goal.invariant-loop-trace
invariant-loop-trace g l = OnPlan l.text (TakesAll (take l.trace-index (texts_of l.traces)) (g.W.Write.contents l.fn.out) (g.W.Write.contents l.out) (Ok l.added))
