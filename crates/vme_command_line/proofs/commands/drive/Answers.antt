use Rattle.std.proofs.Common.{[], ◌∷◌, ap, refl, codes}
use Rattle.std.proofs.lemmas.Result.{IfOk-weaker}
use Rattle.clap.specs.Words.{App}
use Rattle.vme_command_line.specs.Commands.{after, edges, leaf, only, progress, seed, seeds, until, version}
use Rattle.vme_command_line.proofs.commands.drive.Goals as goal

pub returns : goal.returns
returns c =
    let with_edges = IfOk-weaker c.taking-command.result _ _
    (λ made adds. adds (leaf (codes "drive") []) edges c.command-command.ensures c.edges_option.ensures refl) c.taking-command.ensures in
    let with_seed = IfOk-weaker c.taking-command-2.result _ _
    (λ made adds. adds (leaf (codes "drive") (edges ∷ [])) seed with_edges c.seed_option.ensures refl) c.taking-command-2.ensures in
    let with_seeds = IfOk-weaker c.taking-command-3.result _ _
    (λ made adds. adds (leaf (codes "drive") (edges ∷ seed ∷ [])) seeds with_seed c.seeds_option.ensures refl) c.taking-command-3.ensures in
    let with_until = IfOk-weaker c.taking-command-4.result _ _
    (λ made adds. adds (leaf (codes "drive") (edges ∷ seed ∷ seeds ∷ [])) until with_seeds c.until_option.ensures refl) c.taking-command-4.ensures in
    let with_only = IfOk-weaker c.taking-command-5.result _ _
    (λ made adds. adds (leaf (codes "drive") (edges ∷ seed ∷ seeds ∷ until ∷ [])) only with_until c.of_option.ensures refl) c.taking-command-5.ensures in
    let with_after = IfOk-weaker c.taking-command-6.result _ _
    (λ made adds. adds (leaf (codes "drive") (edges ∷ seed ∷ seeds ∷ until ∷ only ∷ [])) after with_only c.behind_option.ensures refl) c.taking-command-6.ensures in
    let with_progress = IfOk-weaker c.taking-command-7.result _ _
    (λ made adds. adds (leaf (codes "drive") (edges ∷ seed ∷ seeds ∷ until ∷ only ∷ after ∷ [])) progress with_after c.progress_option.ensures refl) c.taking-command-7.ensures in
    IfOk-weaker c.taking.result _ _
    (λ made adds. ap (λ (a : App). a.top) (adds (leaf (codes "drive") (edges ∷ seed ∷ seeds ∷ until ∷ only ∷ after ∷ progress ∷ [])) version with_progress c.version_option.ensures refl))
    c.taking.ensures
