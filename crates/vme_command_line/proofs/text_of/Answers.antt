use Rattle.clap.specs.Words.{found_of}
use Rattle.vme_command_line.proofs.Operands.{text_read}
use Rattle.vme_command_line.proofs.text_of.Goals as goal

pub returns : goal.returns
returns c = text_read (found_of c.args.operands.now) c.args.name.now c.get_str.result c.get_str.ensures
