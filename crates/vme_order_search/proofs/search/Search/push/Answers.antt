use Rattle.std.proofs.Common.{refl}
use Rattle.vme_order_search.proofs.search.Search.push.Goals as goal

pub returns-clause-grown : goal.returns-clause-grown
returns-clause-grown c = record {
  trail = c.push.new.self;
  longer = c.push-2.new.self;
  last = record { step = c.in_ok-step.step; taken = c.args.taken; bus = c.args.bus };
  is = refl;
  taken_is = refl;
  bus_is = refl;
  items = c.in_ok-push.ensures.kept;
  kept = λ at path. c.in_ok-step.ensures.kept at path;
  ends = λ path. c.in_ok-step.ensures.ends path;
}
