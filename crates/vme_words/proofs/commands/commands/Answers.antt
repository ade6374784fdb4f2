use Rattle.std.proofs.Common.{◌∙◌, [], true, ap, refl, codes}
use Rattle.std.proofs.lemmas.Result.{IfOk-weaker}
use Rattle.clap.specs.Words.{App, new_app, with_subcommand}
use Rattle.clap.specs.Simple.{app_of_fields}
use Rattle.vme_words.specs.Commands.{check, drive, replay, run}
use Rattle.vme_words.proofs.Building.{put}
use Rattle.vme_words.proofs.commands.commands.Goals as goal

abbrev bare : App
bare = record { top = record (new_app (codes "vmebus")).top { no_binary_name = true }; subs = [] }

pub returns : goal.returns
returns c =
    let named = ap app_of_fields c.in_ok-bin_name.ensures.0 ∙ c.new.ensures.app in
    let unnamed = ap app_of_fields c.no_binary_name.ensures ∙ ap (λ (a : App). record a { top = record a.top { no_binary_name = true } }) named in
    let begun = ap app_of_fields c.after_help.ensures ∙ ap app_of_fields c.about.ensures ∙ unnamed in
    let one = put c.after_help.result c.in_ok-subcommand.field-0 c.in_ok-replay.field-0 bare replay
    c.in_ok-subcommand.ensures begun c.in_ok-replay.ensures refl in
    let two = put c.in_ok-subcommand.field-0 c.in_ok-subcommand-2.field-0 c.in_ok-check.field-0 (with_subcommand bare replay) check
    c.in_ok-subcommand-2.ensures one c.in_ok-check.ensures refl in
    let three = put c.in_ok-subcommand-2.field-0 c.in_ok-subcommand-3.field-0 c.in_ok-drive.field-0 (with_subcommand (with_subcommand bare replay) check) drive
    c.in_ok-subcommand-3.ensures two c.in_ok-drive.ensures refl in
    IfOk-weaker c.subcommand-4.result _ _
    (λ made adds. put c.in_ok-subcommand-3.field-0 made c.in_ok-run.field-0 (with_subcommand (with_subcommand (with_subcommand bare replay) check) drive) run
    adds three c.in_ok-run.ensures refl)
    c.subcommand-4.ensures
