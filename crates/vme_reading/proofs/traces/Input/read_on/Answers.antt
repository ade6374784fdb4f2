use Rattle.std.proofs.Common.{[]}
use Rattle.vme_reading.proofs.traces.Input.read_on.Goals as goal

pub returns : goal.returns
returns g c = λ task p v from begun_so begun. c.read_on.ensures task p v begun_so from [] begun.known begun.came
