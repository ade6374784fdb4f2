use Rattle.std.proofs.Common.{◌∙◌, ap}
use Rattle.vme_rules.proofs.Moves.{ruled_alone}
use Rattle.vme_master.proofs.masters.Master.may_address.Goals as goal

pub returns : goal.returns
returns c =
    let is = c.address_rule.ensures in
    c.allowed.ensures
    ∙ ruled_alone c.args.self.now.addr c.args.fall (cc (c.if-self-fall.false, ap (λ m. m.addr) c.self.view_is)) (ap (λ k. k.0) is) (ap (λ k. k.1) is)
