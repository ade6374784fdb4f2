use Rattle.std.proofs.Common.{◌∙◌, ap, refl}
use Rattle.std.proofs.KnownBytes.{Keeps-refl}
use Rattle.vme_model.specs.Report.{at_power_up, trace_limit}
use Rattle.vme_model.specs.Verdict.{State}
use Rattle.vme_shrink.proofs.WrittenStories.{unasked_first}
use Rattle.vme_shrink.proofs.shrinks.ShrinkingJudge.begin.Goals as goal

pub returns-clause-stands : goal.returns-clause-stands
returns-clause-stands g c = λ p v old is. (
  refl,
  Keeps-refl old,
  unasked_first c.args.task.now.edge p v,
  refl,
  (
    c.new-front.result,
    refl,
    c.new-front.ensures ∙ ap (λ (s : State). at_power_up s.version s.plan trace_limit) is,
  ),
)
