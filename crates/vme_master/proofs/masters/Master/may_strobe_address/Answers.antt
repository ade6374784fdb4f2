use Rattle.std.proofs.Common.{◌∙◌, ap}
use Rattle.vme_rules.proofs.Moves.{ruled_alone}
use Rattle.vme_master.proofs.masters.Master.may_strobe_address.Goals as goal

pub returns : goal.returns
returns c = λ holds_bus value.
    let is = c.address_strobe_rule.ensures holds_bus value in
    c.allowed.ensures
    ∙ ruled_alone c.args.self.now.address_strobe c.args.fall (cc (c.if-self-fall.false, ap (λ m. m.address_strobe) c.self.view_is)) (ap (λ k. k.0) is) (ap (λ k. k.1) is)
