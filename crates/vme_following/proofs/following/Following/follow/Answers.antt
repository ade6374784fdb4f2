use Rattle.std.proofs.Common.{subst, arith, List}
use Rattle.vme_model.specs.declared.signals.Edge.{Edge}
use Rattle.vme_following.specs.Followed.{IsAfter, counted}
use Rattle.vme_reading.proofs.KeptEdges.{next_list}
use Rattle.vme_following.proofs.following.Following.follow.Goals as goal

pub loop-edge-preserved : goal.loop-edge-preserved
loop-edge-preserved c = record {
  judged = (let was = c.loop-edge.invariant.judged in let now = c.step.ensures.judged in omega (arith, was, now));
  after = λ p v es is.
      subst (λ (l : List Edge). IsAfter p v l (counted c.step.new.self)) (next_list es c.args.edges.now c.loop-edge.edge-index _ c.loop-edge-test.true)
      (c.step.ensures.after p v _ (c.loop-edge.invariant.after p v es is));
}
