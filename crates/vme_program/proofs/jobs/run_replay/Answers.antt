use Rattle.std.proofs.Common.{None}
use Rattle.vme_reading.specs.Outcomes.{ReplaysInput}
use Rattle.vme_program.specs.Names.{line_form}
use Rattle.vme_program.proofs.Handing.{on_trace}
use Rattle.vme_program.proofs.jobs.run_replay.Goals as goal

pub returns-clause-done : goal.returns-clause-done
returns-clause-done g c =
    rw c.answer_of.ensures
    (on_trace _ (ReplaysInput (line_form c.args.full)) c.args.scenario _ None None (g.W.Write.contents c.args.out.now) (g.W.Write.contents c.replay.new.out) c.replay.result (rw c.line_form-form.ensures at c.replay.ensures))
