use Rattle.std.proofs.Common.{subst}
use Rattle.std.specs.Prelude.{OnOk}
use Rattle.vme_draws.specs.Walks.{Walk}
use Rattle.vme_engines.specs.Drawing.{Draws, WalksSafely}
use Rattle.vme_engines.proofs.FoundSeeds.{drawn_lent, drawn_safely}
use Rattle.vme_engines.proofs.draws.drive_drawn.Goals as goal

pub returns-clause-outcome : goal.returns-clause-outcome
returns-clause-outcome g c =
    drawn_lent c.args.scenario.now c.in_ok-plan.plan c.in_ok-plan.ensures.ok.0 c.in_ok-plan.ensures.ok.1 c.args.version c.args.edges (g.W.Write.contents c.args.out.now) (g.W.Write.contents c.draw_trace.new.out) c.args.seed c.args.until c.draw_trace.result
    (subst (λ (w : Walk). Draws w.state.version w.seed c.args.edges c.args.until (g.W.Write.contents c.args.out.now) (g.W.Write.contents c.draw_trace.new.out) w.state.plan c.draw_trace.result) c.new.ensures c.draw_trace.ensures.outcome)

pub returns-clause-safe : goal.returns-clause-safe
returns-clause-safe g c =
    drawn_safely c.args.scenario.now c.in_ok-plan.plan c.in_ok-plan.ensures.ok.0 c.in_ok-plan.ensures.ok.1 c.args.version c.args.edges (g.W.Write.contents c.args.out.now) (g.W.Write.contents c.draw_trace.new.out) c.args.seed c.args.until c.draw_trace.result
    (subst (λ (w : Walk). OnOk c.draw_trace.result (WalksSafely w.state.plan w.state.version w.seed c.args.edges c.args.until)) c.new.ensures c.draw_trace.ensures.safe)
