use Rattle.std.proofs.Common.{◌∙◌, ap, Err, codes, decimal}
use Rattle.vme_scenario.specs.Faults.{path}
use Rattle.vme_scenario.proofs.Paths.{at_key-moved, below-moved}
use Rattle.vme_scenario.proofs.errors.error_of.Goals as goal

pub returns-in_ok-key-in-Top : goal.returns-in_ok-key-in-Top
returns-in_ok-key-in-Top c r at =
    c.at_path.ensures r ((rw c.in-Top.is at at) ∙ ap (λ f. Err f) (at_key-moved _ _ _ c.key_of.ensures c.in_ok-key-in-Top.ensures.ok))

pub returns-in_ok-key-in-Jumper : goal.returns-in_ok-key-in-Jumper
returns-in_ok-key-in-Jumper c r at =
    c.at_path-in-Jumper.ensures r
    ((rw c.in-Jumper.is at at)
    ∙ ap (λ f. Err f) (below-moved (path (codes "jumper") (decimal c.in-Jumper.number)) _ _ _ c.key_of-in-Jumper.ensures c.in_ok-key-in-Jumper.ensures))
