use Rattle.std.proofs.Common.{None}
use Rattle.vme_program.proofs.Adding.{file_done}
use Rattle.vme_program.proofs.jobs.add_file.Goals as goal

pub returns : goal.returns
returns c =
    rw c.answer_of_trace.ensures (file_done c.args.text.now c.args.scenario c.args.trace c.args.sums.now c.add_trace.new.sums None None c.add_trace.result c.add_trace.ensures.adds)
