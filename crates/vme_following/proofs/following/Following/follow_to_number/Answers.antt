use Rattle.std.proofs.Common.{◌≡◌, ◌+◌, ◌∙◌, ap, sym, arith}
use Rattle.vme_following.proofs.FollowedEdges.{comes_to_number}
use Rattle.vme_following.proofs.following.Following.follow_to_number.Goals as goal

pub returns : goal.returns
returns c =
    let at = c.in_ok-edge.ensures.lookup in
    let there = c.in_ok-place.ensures in
    let less = c.checked_sub.ensures in
    let number : c.args.n ≡ (c.args.self.now.judged + c.in_ok-place.place) + 1 = grind (arith) in
    comes_to_number _ _ _ _ _ _ _ at.3.0 at.1 (number ∙ ap (λ m. m + 1) (sym there.2)) there.2 there.3 c.answer-answer.ensures
