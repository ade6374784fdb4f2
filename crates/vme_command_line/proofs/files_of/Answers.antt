use Rattle.clap.specs.Words.{found_of}
use Rattle.vme_command_line.proofs.Operands.{files_read}
use Rattle.vme_command_line.proofs.files_of.Goals as goal

pub returns : goal.returns
returns c = files_read (found_of c.args.operands.now) c.args.name.now c.get_strs.result c.get_strs.ensures
