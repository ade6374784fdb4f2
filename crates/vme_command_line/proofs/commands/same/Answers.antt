use Rattle.std.proofs.Common.{[], ◌∷◌, ap, refl, codes}
use Rattle.std.proofs.lemmas.Result.{IfOk-weaker}
use Rattle.clap.specs.Words.{App}
use Rattle.vme_command_line.specs.Commands.{file, leaf}
use Rattle.vme_command_line.proofs.commands.same.Goals as goal

pub returns : goal.returns
returns c = IfOk-weaker c.taking.result _ _
    (λ made adds. ap (λ (a : App). a.top) (adds (leaf (codes "same") (file (codes "TRACE") ∷ [])) (file (codes "OTHER")) c.command_on_trace-command.ensures c.other_file.ensures refl))
    c.taking.ensures
