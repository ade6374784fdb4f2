use Rattle.std.proofs.Common.{rules, Some, None}
use Rattle.std.specs.Str.Parse.{ParsesUnsigned, ExplainsUnsignedError, HasUnsignedDigitsIfOk}
use Rattle.clap.specs.Words.{found_of}
use Rattle.vme_command_line.proofs.Operands.{whole_read}
use Rattle.vme_command_line.proofs.whole_of.Goals as goal

pub returns-in-Ok-None-clause-spelled : goal.returns-in-Ok-None-clause-spelled
returns-in-Ok-None-clause-spelled c =
    whole_read (λ bs r. ParsesUnsigned 64 10 bs r × ExplainsUnsignedError 10 bs r × HasUnsignedDigitsIfOk bs r) 64 (found_of c.args.operands.now) c.args.name.now c.try_get_one.result None
    (λ u x g. g.0) c.try_get_one.ensures.none c.try_get_one.ensures.value (search rules)

pub returns-in-Ok-Some-clause-spelled : goal.returns-in-Ok-Some-clause-spelled
returns-in-Ok-Some-clause-spelled c =
    whole_read (λ bs r. ParsesUnsigned 64 10 bs r × ExplainsUnsignedError 10 bs r × HasUnsignedDigitsIfOk bs r) 64 (found_of c.args.operands.now) c.args.name.now c.try_get_one.result
    (Some c.in-Ok-Some.n)
    (λ u x g. g.0) c.try_get_one.ensures.none c.try_get_one.ensures.value (search rules)
