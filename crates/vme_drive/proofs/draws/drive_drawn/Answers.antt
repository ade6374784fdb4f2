use Rattle.vme_drive.proofs.FoundSeeds.{drawn_lent, drawn_safely}
use Rattle.vme_drive.proofs.draws.drive_drawn.Goals as goal

pub returns-clause-outcome : goal.returns-clause-outcome
returns-clause-outcome g c =
    drawn_lent _ _ c.in_ok-plan.ensures.ok.0 c.in_ok-plan.ensures.ok.1 _ c.args.edges _ _ c.args.seed c.args.until _ c.draw_on.ensures.outcome

pub returns-clause-safe : goal.returns-clause-safe
returns-clause-safe g c =
    drawn_safely _ _ c.in_ok-plan.ensures.ok.0 c.in_ok-plan.ensures.ok.1 c.args.version c.args.edges (g.W.Write.contents c.args.out.now) (g.W.Write.contents c.draw_on.new.out) c.args.seed
    c.args.until _ c.draw_on.ensures.safe
