use Rattle.std.specs.Str.Parse.{ParsesBool}
use Rattle.clap.specs.Words.{found_of}
use Rattle.vme_command_line.proofs.Operands.{flag_read}
use Rattle.vme_command_line.proofs.is_flagged.Goals as goal

pub returns : goal.returns
returns c = rw c.unwrap_or.ensures (flag_read (λ bs r. ParsesBool bs r) (found_of c.args.operands.now) c.args.name.now c.get_one.result (λ u x g. g) c.get_one.ensures.none c.get_one.ensures.value)
