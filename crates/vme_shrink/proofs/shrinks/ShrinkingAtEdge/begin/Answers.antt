use Rattle.std.proofs.Common.{◌∙◌, Some, ap}
use Rattle.vme_model.specs.Report.{at_power_up, trace_limit}
use Rattle.vme_model.specs.Verdict.{State}
use Rattle.vme_shrink.proofs.shrinks.ShrinkingAtEdge.begin.Goals as goal

pub returns : goal.returns
returns g c = λ p v is.
    ap (λ (s : State). Some s) (c.new-front.ensures
    ∙ ap (λ (s : State). at_power_up s.version s.plan trace_limit) is)
