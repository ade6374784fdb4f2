use Rattle.std.proofs.Common.{◌≡◌, ◌∙◌, sym, ap, true, List}
use Rattle.vme_model.specs.declared.signals.Edge.{Edge}
use Rattle.vme_model.specs.Plan.{Plan, has_driver}
use Rattle.vme_model.specs.History.{drive}
use Rattle.vme_reasons.proofs.Told.{and_so}
use Rattle.vme_reasons.proofs.wires.holds_low.Goals as goal

pub returns-then-has_driver-clause-low : goal.returns-then-has_driver-clause-low
returns-then-has_driver-clause-low c = λ k at is.
    let b = c.args.bus.now in
    let d = c.args.driver in
    let w = c.args.wire in
    let has : has_driver b.plan d w ≡ true = ap (λ (p : Plan). has_driver p d w) (sym c.plan.ensures) ∙ sym c.has_driver.ensures.has ∙ c.if-has_driver.true in
    and_so (has_driver b.plan d w) (drive b.history d w) c.is_low.result has (c.is_low.ensures b.plan k is ∙ ap (λ (h : List Edge). drive h d w) at)
