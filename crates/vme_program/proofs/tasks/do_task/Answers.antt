use Rattle.std.proofs.Common.{subst, sym}
use Rattle.vme_reading.specs.Outcomes.{LentAsking}
use Rattle.vme_reading.specs.Streams.{ReadNothing, WroteNothing, streams}
use Rattle.vme_command_line.specs.declared.Task.{Task}
use Rattle.vme_program.specs.Done.{DoesTask}
use Rattle.vme_program.proofs.tasks.do_task.Goals as goal

pub returns-in-Replay : goal.returns-in-Replay
returns-in-Replay g c =
    let s = streams (g.R.Read.remaining c.args.trace.now) (g.R.Read.remaining c.replay.new.trace) (g.W.Write.contents c.args.out.now) (g.W.Write.contents c.replay.new.out) in
    subst (λ (task : Task). LentAsking c.args.scenario.now (ReadNothing s × WroteNothing s) (DoesTask task s) c.replay.result) (sym c.in-Replay.is) (rw c.line_form.ensures at c.replay.ensures)

pub returns-in-Summary : goal.returns-in-Summary
returns-in-Summary g c =
    let s = streams (g.R.Read.remaining c.args.trace.now) (g.R.Read.remaining c.summary.new.trace) (g.W.Write.contents c.args.out.now) (g.W.Write.contents c.summary.new.out) in
    subst (λ (task : Task). LentAsking c.args.scenario.now (ReadNothing s × WroteNothing s) (DoesTask task s) c.summary.result) (sym c.in-Summary.is) c.summary.ensures
