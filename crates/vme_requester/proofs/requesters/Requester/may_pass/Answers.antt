use Rattle.std.proofs.Common.{◌∙◌, ap}
use Rattle.vme_rules.proofs.Moves.{ruled_alone}
use Rattle.vme_requester.proofs.requesters.Requester.may_pass.Goals as goal

pub returns : goal.returns
returns c = λ pins is_address_free value same.
    let is = c.pass_rule.ensures pins is_address_free value same in
    c.allowed.ensures
    ∙ ruled_alone c.args.self.now.bgout c.args.fall (cc (c.if-self-fall.false, ap (λ r. r.bgout) c.self.view_is)) (ap (λ k. k.0) is) (ap (λ k. k.1) is)
