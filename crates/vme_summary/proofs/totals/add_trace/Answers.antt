use Rattle.std.proofs.Common.{◌∙◌, ap}
use Rattle.vme_reading.specs.Outcomes.{status_with}
use Rattle.vme_summary.proofs.totals.add_trace.Goals as goal

pub returns-clause-adds : goal.returns-clause-adds
returns-clause-adds g c =
    let h = c.in_ok-tally.ensures in
    let all = h.3.2 in (
      h.0,
      h.1,
      h.2,
      (h.3.0, h.3.1, (all.0, all.1, all.2, λ ts is. c.add.ensures ts is all.0 all.3, c.of_refused.ensures ∙ ap status_with (c.refused.ensures all.0 all.3))),
    )
