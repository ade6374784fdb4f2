use Rattle.std.proofs.Common.{sym, ◌∙◌, arith}
use Rattle.vme_run.proofs.OnceMore.{goes_on, never_refused}
use Rattle.vme_run.proofs.runs.replay.Goals as goal

pub returns-then-is_err : goal.returns-then-is_err
returns-then-is_err c =
    absurd (never_refused c.args.closed.now c.loop-at.second c.loop-at.at c.edge_at.result c.step.result c.laws.ensures.legal c.laws.ensures.fits
    (omega (arith, c.loop-at-test.true, c.len-at-end.ensures)) c.edge_at.ensures c.loop-at.invariant c.step.ensures.accepted
    (sym c.is_err.ensures.value ∙ c.if-is_err.true))

pub loop-at-preserved : goal.loop-at-preserved
loop-at-preserved c =
    goes_on c.args.closed.now c.loop-at.second c.step.new.self c.loop-at.at c.edge_at.result c.laws.ensures.legal c.laws.ensures.fits
    (omega (arith, c.loop-at-test.true, c.len-at-end.ensures)) c.edge_at.ensures c.loop-at.invariant c.step.ensures.state
