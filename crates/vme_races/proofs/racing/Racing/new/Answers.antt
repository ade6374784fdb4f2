use Rattle.std.proofs.Common.{[]}
use Rattle.vme_races.proofs.TakenIn.{plan_there}
use Rattle.vme_races.proofs.racing.Racing.new.Goals as goal

pub returns : goal.returns
returns c = λ p v is. record {
  bus = is;
  last = c.new.ensures v p;
  passing = plan_there p v [] c.args.bus c.state-passing.result.now is c.state-passing.ensures;
  counts = c.new-2.ensures;
  walked = tt;
}
