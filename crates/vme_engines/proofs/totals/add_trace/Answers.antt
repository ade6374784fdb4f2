use Rattle.std.proofs.Common.{◌∙◌, ap}
use Rattle.vme_engines.specs.Outcomes.{status_with}
use Rattle.vme_engines.proofs.totals.add_trace.Goals as goal

pub returns-in-Ok-clause-adds : goal.returns-in-Ok-clause-adds
returns-in-Ok-clause-adds g c =
    let h = rw c.in-Ok.is at c.tally_of_trace.ensures in (
      c.in_ok-plan.plan,
      c.in_ok-plan.ensures.ok.0,
      c.in_ok-plan.ensures.ok.1,
      (
        h.0,
        h.1,
        (h.2.0, h.2.1, h.2.2, λ ts is. c.add.ensures ts is h.2.0 h.2.3, c.status_of.ensures ∙ ap status_with (c.refused.ensures h.2.0 h.2.3)),
      ),
    )
