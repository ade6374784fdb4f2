use Rattle.std.proofs.Common.{◌∙◌, true, ap}
use Rattle.std.proofs.lemmas.Result.{IfOk-weaker}
use Rattle.clap.specs.Simple.{app_of_fields, on_top}
use Rattle.vme_command_line.proofs.commands.program.Goals as goal

pub returns : goal.returns
returns c =
    let unnamed = ap app_of_fields c.no_binary_name.ensures ∙ ap (on_top (λ s. record s { no_binary_name = true })) c.new.ensures.app in
    let numbered = ap app_of_fields c.version.ensures ∙ ap (on_top (λ s. record s { has_version = true })) unnamed in
    let begun = ap app_of_fields c.after_help.ensures ∙ ap app_of_fields c.about.ensures ∙ numbered in
    IfOk-weaker c.bin_name.result _ _ (λ made named. ap app_of_fields named.0 ∙ begun) c.bin_name.ensures
