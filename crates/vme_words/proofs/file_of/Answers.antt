use Rattle.clap.specs.Words.{found_of}
use Rattle.vme_words.proofs.Operands.{file_named}
use Rattle.vme_words.proofs.file_of.Goals as goal

pub returns : goal.returns
returns c = file_named (found_of c.args.operands.now) c.args.name.now c.get_str.result c.get_str.ensures
