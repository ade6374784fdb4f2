use Rattle.std.proofs.Common.{◌≡◌, ◌∙◌, sym, subst, arith, rules, List, None}
use Rattle.vme_model.specs.declared.signals.Edge.{Edge}
use Rattle.vme_reading.specs.Outcomes.{bench}
use Rattle.vme_reading.specs.Refusals.{first_refusal}
use Rattle.vme_following.specs.Followed.{IsAfter, counted}
use Rattle.vme_following.proofs.FollowedEdges.{comes_to_refused, next_list, none_more, refused_same}
use Rattle.vme_following.proofs.following.Following.follow_to_refused.Goals as goal

pub returns-then-is_err : goal.returns-then-is_err
returns-then-is_err c =
    comes_to_refused _ _ _ _ _ _ _ c.loop-edge-test.true c.loop-edge.invariant.judged c.loop-edge.invariant.after
    (sym c.step-answer.ensures.accepted ∙ search rules) c.step-answer.ensures.answer (refused_same c.step-answer.result _ _ (search rules) c.step-answer.ensures.refused)

pub loop-edge-preserved : goal.loop-edge-preserved
loop-edge-preserved c = record {
  judged = (let was = c.loop-edge.invariant.judged in let now = c.step-answer.ensures.judged in omega (arith, was, now));
  after = λ p v es is none.
      let at = c.loop-edge.invariant.after p v es is none in
      let next = next_list es c.args.edges.now c.loop-edge.edge-index _ c.loop-edge-test.true in (
        subst (λ (l : List Edge). first_refusal 1 (bench p v) l ≡ None) next (none_more p v _ _ c.loop-edge.self at.1 at.0 (sym c.step-answer.ensures.accepted ∙ search rules)),
        subst (λ (l : List Edge). IsAfter p v l (counted c.step-answer.new.self)) next (c.step-answer.ensures.after p v _ at.1),
      );
}
