use Rattle.std.proofs.Common.{rules}
use Rattle.vme_scenario.proofs.Paths.{path-path}
use Rattle.vme_scenario.proofs.errors.part_path.Goals as goal

pub returns : goal.returns
returns c = rw (path-path _ c.args.part.now c.args.key.now) (search rules)
