use Rattle.std.proofs.Common.{◌≡◌, Some, IfErr, IfOk, IsSomeAnd, rules, subst, sym}
use Rattle.clap.specs.Words.{found_of, rows_of, subcommand_of}
use Rattle.vme_command_line.specs.Asked.{AsksFor, texts_of}
use Rattle.vme_command_line.specs.Commands.{commands as commands_said}
use Rattle.vme_command_line.specs.Unfits.{IsUnfit}
use Rattle.vme_command_line.proofs.single.asked_of_one.Goals as goal

pub returns-clause-asked : goal.returns-clause-asked
returns-clause-asked c =
    let found : subcommand_of commands_said (texts_of c.args.words.now) ≡ Some (c.in-Some.name.now.now, rows_of (found_of c.in-Ok.operands)) = search rules in
    subst (λ met. IfOk c.job_of.result (λ job. IsSomeAnd met (λ it. AsksFor it.0 it.1 job))) (sym found) c.job_of.ensures.asked

pub returns-clause-unfit : goal.returns-clause-unfit
returns-clause-unfit c =
    let found : subcommand_of commands_said (texts_of c.args.words.now) ≡ Some (c.in-Some.name.now.now, rows_of (found_of c.in-Ok.operands)) = search rules in
    subst (λ met. IfErr c.job_of.result (λ unfit. IsSomeAnd met (λ it. IsUnfit it.0 it.1 unfit))) (sym found) c.job_of.ensures.unfit
