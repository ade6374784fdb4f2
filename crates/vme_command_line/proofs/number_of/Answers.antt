use Rattle.std.proofs.Common.{rules}
use Rattle.std.specs.Str.Parse.{ParsesUnsigned, ExplainsUnsignedError, HasUnsignedDigitsIfOk}
use Rattle.clap.specs.Words.{found_of}
use Rattle.vme_command_line.proofs.Operands.{number_read}
use Rattle.vme_command_line.proofs.number_of.Goals as goal

pub returns-in-Some-clause-spelled : goal.returns-in-Some-clause-spelled
returns-in-Some-clause-spelled c =
    number_read (λ bs r. ParsesUnsigned 32 10 bs r × ExplainsUnsignedError 10 bs r × HasUnsignedDigitsIfOk bs r) 32 (found_of c.args.operands.now) c.args.name.now c.get_one.result c.in-Some.number
    (λ u x g. g.0) c.get_one.ensures.none c.get_one.ensures.value (search rules)
