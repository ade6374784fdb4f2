use Rattle.std.proofs.Common.{◌+◌, ◌∙◌, sym, ap, rules}
use Rattle.vme_engines.proofs.FollowedEdges.{followed_more, none_more, comes_to_refused}
use Rattle.vme_engines.proofs.following.Following.follow_to_refused.Goals as goal

pub returns-then-is_err-clause-some : goal.returns-then-is_err-clause-some
returns-then-is_err-clause-some c =
    comes_to_refused c.args.self.now c.loop-edge.self c.step-answer.new.self c.args.edges.now c.loop-edge.edge-index _ _ c.loop-edge-test.true c.loop-edge.invariant.follows c.loop-edge.invariant.none
    (sym c.step-answer.ensures.accepted ∙ search rules) c.step-answer.ensures.answer c.step-answer.ensures.bus c.step-answer.ensures.judged c.step-answer.ensures.marks

pub loop-edge-preserved : goal.loop-edge-preserved
loop-edge-preserved c = record {
  follows = followed_more c.args.self.now c.loop-edge.self _ c.args.edges.now c.loop-edge.edge-index _ c.loop-edge-test.true c.loop-edge.invariant.follows c.step-answer.ensures.bus (ap (λ n. n + 1) c.step-answer.ensures.judged) c.step-answer.ensures.marks;
  none = none_more c.args.self.now c.loop-edge.self c.args.edges.now c.loop-edge.edge-index _ c.loop-edge-test.true c.loop-edge.invariant.follows c.loop-edge.invariant.none (sym c.step-answer.ensures.accepted ∙ search rules);
}
