use Rattle.vme_standings.proofs.Walked.{none_there}
use Rattle.vme_standings.proofs.UnseenPhases.{no_rise}
use Rattle.vme_standings.proofs.unseen.held_reached.Goals as goal

pub returns : goal.returns
returns c =
    no_rise c.args.plan.now c.args.probed.now c.args.board c.args.firsts (λ u. none_there c.args.firsts c.is_some-is_some.result c.if-is_some.false c.is_some-is_some.ensures.none u)
