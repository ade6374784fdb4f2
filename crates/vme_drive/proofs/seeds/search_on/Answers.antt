use Rattle.std.proofs.Common.{subst}
use Rattle.std.specs.Prelude.{IfOk, IfSome, Some}
use Rattle.vme_seeds.specs.Walks.{Walk}
use Rattle.vme_drive.specs.Drawing.{WalksSafely}
use Rattle.vme_drive.specs.Found.{Finds, found_answer}
use Rattle.vme_drive.proofs.seeds.search_on.Goals as goal

pub returns-clause-outcome : goal.returns-clause-outcome
returns-clause-outcome g c =
    subst (λ (w : Walk). Finds w.state.version c.args.edges c.args.first_seed c.args.last_seed c.args.goal (g.W.Write.contents c.args.out.now) (g.W.Write.contents c.search.new.out) c.search.result
    w.state.plan (found_answer c.search.result)) c.new.ensures c.search.ensures.outcome

pub returns-clause-safe : goal.returns-clause-safe
returns-clause-safe g c =
    subst (λ (w : Walk). IfOk c.search.result (λ o. IfSome o (λ seed. WalksSafely w.state.plan w.state.version seed c.args.edges (Some c.args.goal)))) c.new.ensures c.search.ensures.safe
