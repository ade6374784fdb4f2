use Rattle.vme_drive.proofs.FoundSeeds.{found_lent, found_safely}
use Rattle.vme_drive.proofs.seeds.drive_found.Goals as goal

pub returns-clause-outcome : goal.returns-clause-outcome
returns-clause-outcome g c =
    found_lent _ _ c.in_ok-plan.ensures.ok.0 c.in_ok-plan.ensures.ok.1 c.args.version c.args.edges (g.W.Write.contents c.args.out.now) (g.W.Write.contents c.search_on.new.out) _ _ c.args.goal _
    c.search_on.ensures.outcome

pub returns-clause-safe : goal.returns-clause-safe
returns-clause-safe g c =
    found_safely _ _ c.in_ok-plan.ensures.ok.0 c.in_ok-plan.ensures.ok.1 c.args.version c.args.edges (g.W.Write.contents c.args.out.now) (g.W.Write.contents c.search_on.new.out) c.args.first_seed
    c.args.last_seed c.args.goal _ c.search_on.ensures.safe
