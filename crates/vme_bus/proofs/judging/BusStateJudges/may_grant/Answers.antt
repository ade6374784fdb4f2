use Rattle.std.proofs.Common.{◌∙◌, ap}
use Rattle.vme_model.specs.declared.pins.Pins.{Pins}
use Rattle.vme_wiring.proofs.Quiet.{free}
use Rattle.vme_bus.proofs.judging.BusStateJudges.may_grant.Goals as goal

pub returns : goal.returns
returns c version p h is =
    c.may_grant.ensures
    ∙ free version p h c.arbiter.result.1 c.shared.result.bbsy is.legal (ap (λ a. a.1) (c.arbiter.ensures version p h is)) (ap (λ (x : Pins). x.bbsy) (c.shared.ensures version p h is))
