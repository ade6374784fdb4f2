use Rattle.std.proofs.Common.{[], ap, refl, codes}
use Rattle.std.proofs.lemmas.Result.{IfOk-weaker}
use Rattle.clap.specs.Words.{App}
use Rattle.vme_words.specs.Commands.{file, leaf}
use Rattle.vme_words.proofs.Building.{added}
use Rattle.vme_words.proofs.commands.check.Goals as goal

pub returns : goal.returns
returns c = IfOk-weaker c.arg.result _ _
    (λ made adds. ap (λ (a : App). a.top) (added c.in_ok-command.field-0 made c.trace_file.result (leaf (codes "check") []) (file (codes "TRACE")) adds
    c.in_ok-command.ensures c.trace_file.ensures refl))
    c.arg.ensures
