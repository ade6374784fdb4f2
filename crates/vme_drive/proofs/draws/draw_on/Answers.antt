use Rattle.std.proofs.Common.{subst}
use Rattle.std.specs.Prelude.{OnOk}
use Rattle.vme_seeds.specs.Walks.{Walk}
use Rattle.vme_drive.specs.Drawing.{Draws, WalksSafely}
use Rattle.vme_drive.proofs.draws.draw_on.Goals as goal

pub returns-clause-outcome : goal.returns-clause-outcome
returns-clause-outcome g c =
    subst (λ (w : Walk). Draws w.state.version w.seed c.args.edges c.args.until (g.W.Write.contents c.args.out.now) (g.W.Write.contents c.draw_trace.new.out) w.state.plan c.draw_trace.result)
    c.new.ensures c.draw_trace.ensures.outcome

pub returns-clause-safe : goal.returns-clause-safe
returns-clause-safe g c =
    subst (λ (w : Walk). OnOk c.draw_trace.result (WalksSafely w.state.plan w.state.version w.seed c.args.edges c.args.until)) c.new.ensures c.draw_trace.ensures.safe
