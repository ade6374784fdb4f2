use Rattle.vme_engines.proofs.FoundSeeds.{found_lent, found_safely}
use Rattle.vme_engines.proofs.seeds.drive_found.Goals as goal

pub returns-clause-outcome : goal.returns-clause-outcome
returns-clause-outcome g c =
    found_lent c.args.scenario.now c.in_ok-plan.plan c.in_ok-plan.ensures.ok.0 c.in_ok-plan.ensures.ok.1 c.args.version c.args.edges (g.W.Write.contents c.args.out.now) (g.W.Write.contents c.search_on.new.out) c.args.first_seed c.args.last_seed c.args.goal c.search_on.result c.search_on.ensures.outcome

pub returns-clause-safe : goal.returns-clause-safe
returns-clause-safe g c =
    found_safely c.args.scenario.now c.in_ok-plan.plan c.in_ok-plan.ensures.ok.0 c.in_ok-plan.ensures.ok.1 c.args.version c.args.edges (g.W.Write.contents c.args.out.now) (g.W.Write.contents c.search_on.new.out) c.args.first_seed c.args.last_seed c.args.goal c.search_on.result c.search_on.ensures.safe
