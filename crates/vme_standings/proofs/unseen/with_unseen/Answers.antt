use Rattle.std.proofs.Common.{◌∙◌, sym, arith}
use Rattle.vme_standings.proofs.UnseenPhases.{at_most_four, begin_kept, begin_only, held_stays, round_adds, round_closed, round_kept, round_only, rows_of}
use Rattle.vme_standings.proofs.unseen.with_unseen.Goals as goal

pub loop-round-init : goal.loop-round-init
loop-round-init c =
    let p = c.args.plan.now in
    let s = c.args.phases.now in
    let new = c.with_held-reached.result in
    record {
      accepted = c.accepted.ensures;
      kept = begin_kept p c.args.probed.now s new c.with_held-reached.ensures;
      held = c.with_held-reached.ensures.held;
      only = λ ok. begin_only p ok c.args.version c.args.requests c.args.probed.now s new c.with_held-reached.ensures;
      many = omega arith;
    }

pub loop-round-preserved : goal.loop-round-preserved
loop-round-preserved c =
    let p = c.args.plan.now in
    let inv = c.loop-round.invariant in
    let from = c.loop-round.reached in
    let new = c.round-next.result in
    let round = c.round-next.ensures in
    let more = round_adds p c.args.version c.args.requests c.args.probed.now from new round (sym c.is_idle_alike-is_closed.ensures ∙ c.if-is_closed.false) in
    let many = inv.many in
    record {
      accepted = inv.accepted;
      kept = λ q few h. round_kept p c.args.version c.args.requests c.args.probed.now from new round q few (inv.kept q few h);
      held = held_stays p c.args.version c.args.requests c.args.probed.now c.args.phases.now from new round inv.held;
      only = λ ok. round_only p ok c.args.version c.args.requests c.args.probed.now c.args.phases.now from new round (inv.only ok);
      many = omega (arith, more, many);
    }

pub returns-then-is_closed-clause-kept : goal.returns-then-is_closed-clause-kept
returns-then-is_closed-clause-kept c q row h =
    let few = rows_of q row in
    round_kept c.args.plan.now c.args.version c.args.requests c.args.probed.now c.loop-round.reached c.round-next.result c.round-next.ensures q few (c.loop-round.invariant.kept q few h)

pub returns-then-is_closed-clause-closed : goal.returns-then-is_closed-clause-closed
returns-then-is_closed-clause-closed c q r row e h =
    let p = c.args.plan.now in
    let from = c.loop-round.reached in
    let round = c.round-next.ensures in
    round_closed p c.args.version c.args.requests c.args.probed.now c.args.phases.now from c.round-next.result round (sym c.is_idle_alike-is_closed.ensures ∙ c.if-is_closed.true)
    (held_stays p c.args.version c.args.requests c.args.probed.now c.args.phases.now from c.round-next.result round c.loop-round.invariant.held)
    q r (rows_of q row) e h

pub returns-then-is_closed-clause-only : goal.returns-then-is_closed-clause-only
returns-then-is_closed-clause-only c q row h =
    let inv = c.loop-round.invariant in
    round_only c.args.plan.now inv.accepted c.args.version c.args.requests c.args.probed.now c.args.phases.now c.loop-round.reached c.round-next.result c.round-next.ensures (inv.only inv.accepted) q
    (rows_of q row) h

-- each round but the last adds an idle phase, so there is none left for a fifth
pub returns-clause-kept : goal.returns-clause-kept
returns-clause-kept c q row h =
    let many = c.loop-round.invariant.many in
    let few = at_most_four c.loop-round.reached in
    absurd (omega (arith, many, few, c.loop-round-test.false))

pub returns-clause-closed : goal.returns-clause-closed
returns-clause-closed c q r row e h =
    let many = c.loop-round.invariant.many in
    let few = at_most_four c.loop-round.reached in
    absurd (omega (arith, many, few, c.loop-round-test.false))

pub returns-clause-only : goal.returns-clause-only
returns-clause-only c q row h =
    let many = c.loop-round.invariant.many in
    let few = at_most_four c.loop-round.reached in
    absurd (omega (arith, many, few, c.loop-round-test.false))
