use Rattle.std.proofs.Common.{rules, inl, inr, IsSomeAnd}
use Rattle.std.proofs.lemmas.Result.{IfErr-weaker}
use Rattle.clap.specs.Words.{subcommand_of}
use Rattle.vme_words.specs.Asked.{AsksFor, texts_of}
use Rattle.vme_words.specs.Commands.{commands as commands_said}
use Rattle.vme_words.proofs.Windows.{no_window}
use Rattle.vme_words.proofs.words.Goals as goal

pub returns-in-Some-clause-refused : goal.returns-in-Some-clause-refused
returns-in-Some-clause-refused c =
    let asks : IsSomeAnd (subcommand_of commands_said (texts_of c.args.words.now)) (λ met. AsksFor met.0 met.1 c.in-Some.job) = search rules in
    IfErr-weaker c.windowed.result _ _
    (λ error why. elim why [ inl memory ↦ inl (inl memory) | inr none ↦ inr (none.0, no_window _ c.in-Some.job asks none.1) ])
    c.windowed.ensures.refused
