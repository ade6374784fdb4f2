use Rattle.std.proofs.Common.{[]}
use Rattle.vme_engines.proofs.traces.Input.read_on.Goals as goal

pub returns : goal.returns
returns g c = λ from version begun. c.read_on.ensures version from [] [] begun.known begun.came
