use Rattle.std.proofs.Common.{◌∙◌, ap}
use Rattle.vme_rules.proofs.Moves.{ruled_alone}
use Rattle.vme_interrupter.proofs.interrupters.Interrupter.may_request.Goals as goal

pub returns : goal.returns
returns c = λ pins value.
    let is = c.request_rule.ensures pins value in
    c.allowed.ensures
    ∙ ruled_alone c.args.self.now.irq c.args.fall (cc (c.if-self-fall.false, ap (λ i. i.irq) c.self.view_is)) (ap (λ k. k.0) is) (ap (λ k. k.1) is)
