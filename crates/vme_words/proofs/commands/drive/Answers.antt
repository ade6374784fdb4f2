use Rattle.std.proofs.Common.{[], ◌∷◌, ap, refl, codes}
use Rattle.std.proofs.lemmas.Result.{IfOk-weaker}
use Rattle.clap.specs.Words.{App}
use Rattle.vme_words.specs.Commands.{edges, leaf, version}
use Rattle.vme_words.proofs.Building.{added}
use Rattle.vme_words.proofs.commands.drive.Goals as goal

pub returns : goal.returns
returns c =
    let with_edges = added c.in_ok-command.field-0 c.in_ok-arg.field-0 c.edges_option.result (leaf (codes "drive") []) edges
    c.in_ok-arg.ensures c.in_ok-command.ensures c.edges_option.ensures refl in
    IfOk-weaker c.arg-2.result _ _
    (λ made adds. ap (λ (a : App). a.top) (added c.in_ok-arg.field-0 made c.version_option.result (leaf (codes "drive") (edges ∷ [])) version adds
    with_edges c.version_option.ensures refl))
    c.arg-2.ensures
