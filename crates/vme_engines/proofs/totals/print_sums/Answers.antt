use Rattle.vme_engines.proofs.totals.print_sums.Goals as goal

pub returns-in-Ok : goal.returns-in-Ok
returns-in-Ok g c = (
  c.in_ok-plan.plan,
  c.in_ok-plan.ensures.ok.0,
  c.in_ok-plan.ensures.ok.1,
  λ ts is. (c.in-Ok.ensures.ok ts is, c.in-Ok.ensures.status ts is),
)
