use Rattle.std.proofs.Common.{◌≡◌, ◌∙◌, None, ap, codes, option_map, subst, sym}
use Rattle.clap.specs.Words.{first_of, found_of, rows_of}
use Rattle.vme_command_line.specs.Asked.{IsChoice, IsFlag, IsGoal}
use Rattle.vme_command_line.specs.declared.Choice.TheVariants.{Drawn, InTurn}
use Rattle.vme_command_line.proofs.NoJobs.{if_idle, if_silent}
use Rattle.vme_command_line.proofs.choice_of.Goals as goal

pub returns-in-Some-None-default-clause-asked : goal.returns-in-Some-None-default-clause-asked
returns-in-Some-None-default-clause-asked c =
    let rows = rows_of (found_of c.args.operands.now) in
    let seeds : first_of (codes "seeds") rows ≡ None =
    sym c.text_of.ensures ∙ ap (λ o. option_map (λ t. t.now) o) c.in-Some-None-default.is-1 in
    if_silent c.is_flagged-progress.result c.without_progress.result (Drawn c.in-Some-None-default.seed c.in_ok-until.until)
    (IsChoice rows c.args.version) c.without_progress.ensures.silent c.without_progress.ensures.idle
    (λ off. (
      c.in_ok-seed.ensures.spelled ∙ c.in-Some-None-default.is-0,
      seeds,
      c.in_ok-until.ensures.goal,
      subst (λ b. IsFlag (codes "progress") rows b) off c.is_flagged-progress.ensures,
    ))

pub returns-in-Some-None-default-clause-unfit : goal.returns-in-Some-None-default-clause-unfit
returns-in-Some-None-default-clause-unfit c = λ version.
    let rows = rows_of (found_of c.args.operands.now) in
    let seeds : first_of (codes "seeds") rows ≡ None =
    sym c.text_of.ensures ∙ ap (λ o. option_map (λ t. t.now) o) c.in-Some-None-default.is-1 in
    if_idle c.is_flagged-progress.result c.without_progress.result (Drawn c.in-Some-None-default.seed c.in_ok-until.until)
    rows c.without_progress.ensures.silent c.without_progress.ensures.idle
    (λ on. (subst (λ b. IsFlag (codes "progress") rows b) on c.is_flagged-progress.ensures, seeds))

pub returns-in-None-None-None-clause-asked : goal.returns-in-None-None-None-clause-asked
returns-in-None-None-None-clause-asked c =
    let rows = rows_of (found_of c.args.operands.now) in
    let seeds : first_of (codes "seeds") rows ≡ None =
    sym c.text_of.ensures ∙ ap (λ o. option_map (λ t. t.now) o) c.in-None-None-None.is-1 in
    if_silent c.is_flagged-progress.result c.without_progress-in-None-None-None.result InTurn (IsChoice rows c.args.version)
    c.without_progress-in-None-None-None.ensures.silent c.without_progress-in-None-None-None.ensures.idle
    (λ off. (
      c.in_ok-seed.ensures.spelled ∙ c.in-None-None-None.is-0,
      seeds,
      subst (λ o. IsGoal rows c.args.version o) c.in-None-None-None.is-2 c.in_ok-until.ensures.goal,
      subst (λ b. IsFlag (codes "progress") rows b) off c.is_flagged-progress.ensures,
    ))

pub returns-in-None-None-None-clause-unfit : goal.returns-in-None-None-None-clause-unfit
returns-in-None-None-None-clause-unfit c = λ version.
    let rows = rows_of (found_of c.args.operands.now) in
    let seeds : first_of (codes "seeds") rows ≡ None =
    sym c.text_of.ensures ∙ ap (λ o. option_map (λ t. t.now) o) c.in-None-None-None.is-1 in
    if_idle c.is_flagged-progress.result c.without_progress-in-None-None-None.result InTurn
    rows c.without_progress-in-None-None-None.ensures.silent c.without_progress-in-None-None-None.ensures.idle
    (λ on. (subst (λ b. IsFlag (codes "progress") rows b) on c.is_flagged-progress.ensures, seeds))
