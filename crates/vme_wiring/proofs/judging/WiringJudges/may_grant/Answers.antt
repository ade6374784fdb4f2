use Rattle.std.proofs.Common.{◌∙◌, ap}
use Rattle.vme_model.specs.declared.pins.Pins.{Pins}
use Rattle.vme_wiring.proofs.Quiet.{free}
use Rattle.vme_wiring.proofs.judging.WiringJudges.may_grant.Goals as goal

pub returns : goal.returns
returns c version p h is =
    let w = c.args.self.now in
    c.may_grant.ensures
    ∙ free version p h w.arbiter.1 w.shared.bbsy is.legal (ap (λ a. a.1) is.arbiter) (ap (λ (x : Pins). x.bbsy) is.shared)
