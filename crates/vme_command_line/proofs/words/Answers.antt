use Rattle.std.proofs.Common.{rules, ◌≢◌, inl, inr, IsSomeAnd}
use Rattle.clap.specs.Words.{subcommand_of}
use Rattle.vme_command_line.specs.Asked.{texts_of}
use Rattle.vme_command_line.specs.Commands.{commands as commands_said}
use Rattle.vme_command_line.specs.Unfits.{IsUnfit}
use Rattle.vme_command_line.specs.declared.Unfit.TheVariants.{Missing}
use Rattle.vme_command_line.proofs.NoJobs.{no_job}
use Rattle.vme_command_line.proofs.words.Goals as goal

pub returns-in_ok-error_of-in-Ok-Err-clause-refused : goal.returns-in_ok-error_of-in-Ok-Err-clause-refused
returns-in_ok-error_of-in-Ok-Err-clause-refused c =
    let unfit : c.in-Ok-Err.unfit ≢ Missing → IsSomeAnd (subcommand_of commands_said (texts_of c.args.words.now)) (λ met. IsUnfit met.0 met.1 c.in-Ok-Err.unfit) = search rules in
    elim c.in_ok-error_of-in-Ok-Err.ensures [
      | inl none ↦ inl (search rules)
      | inr wrong ↦ inr (wrong.0, no_job _ c.in-Ok-Err.unfit wrong.1 wrong.2 unfit)
    ]
