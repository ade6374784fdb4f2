use Rattle.std.proofs.Common.{◌∙◌, ap, refl, codes}
use Rattle.std.proofs.lemmas.Result.{IfOk-weaker}
use Rattle.clap.specs.Words.{App, new_app}
use Rattle.clap.specs.Simple.{app_of_fields}
use Rattle.vme_command_line.specs.Commands.{word}
use Rattle.vme_command_line.proofs.Building.{added}
use Rattle.vme_command_line.proofs.commands.rule.Goals as goal

pub returns : goal.returns
returns c =
    let begun = ap app_of_fields c.after_help.ensures ∙ ap app_of_fields c.override_usage.ensures ∙ ap app_of_fields c.about.ensures ∙ c.new.ensures.app in
    IfOk-weaker c.arg.result _ _
    (λ made adds. ap (λ (a : App). a.top) (added c.after_help.result made c.rule_name.result (new_app (codes "rule")) (word (codes "NAME")) adds begun c.rule_name.ensures refl))
    c.arg.ensures
