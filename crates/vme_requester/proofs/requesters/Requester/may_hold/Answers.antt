use Rattle.std.proofs.Common.{◌∙◌, ap}
use Rattle.vme_rules.proofs.Moves.{ruled_alone}
use Rattle.vme_requester.proofs.requesters.Requester.may_hold.Goals as goal

pub returns : goal.returns
returns c = λ value.
    let is = c.hold_rule.ensures value in
    c.allowed.ensures
    ∙ ruled_alone c.args.self.now.bbsy c.args.fall (cc (c.if-self-fall.false, ap (λ r. r.bbsy) c.self.view_is)) (ap (λ k. k.0) is) (ap (λ k. k.1) is)
