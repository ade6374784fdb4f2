use Rattle.std.proofs.Common.{rules, codes}
use Rattle.vme_command_line.proofs.check_of.Goals as goal

pub returns-in_err-trace-clause-unfit : goal.returns-in_err-trace-clause-unfit
returns-in_err-trace-clause-unfit c = search (rules, c.in_err-trace.ensures.unfit (codes "check"))
