use Rattle.std.proofs.Common.{refl, sym, ◌+◌}
use Rattle.vme_following.proofs.FollowedEdges.{after_next, after_next_refused, noted}
use Rattle.vme_following.proofs.following.Following.step.Goals as goal

pub returns-in-Ok-clause-after : goal.returns-in-Ok-clause-after
returns-in-Ok-clause-after c = λ p v es is.
    after_next p v es c.args.edge.now c.args.self.now _ is c.in-Ok.ensures.state refl
    (noted _ _ (c.args.self.now.judged + 1) _ _ _ _ (sym c.in-Ok.ensures.accepted) c.in-Ok.ensures.state c.shown_at-shown.ensures c.note.ensures)

pub returns-in-Err-clause-after : goal.returns-in-Err-clause-after
returns-in-Err-clause-after c = λ p v es is.
    after_next_refused p v es c.args.edge.now c.args.self.now _ is c.in-Err.ensures.state refl refl (sym c.in-Err.ensures.accepted)
