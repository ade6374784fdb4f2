use Rattle.std.proofs.Common.{◌∙◌, ap}
use Rattle.std.specs.Prelude.{is_ok}
use Rattle.vme_histories.proofs.AcceptedOffers.{answered}
use Rattle.vme_bus.proofs.buses.Bus.step.Goals as goal

pub returns-clause-accepted : goal.returns-clause-accepted
returns-clause-accepted c =
    ap is_ok (c.answer.ensures ∙ c.step_or_refuse.ensures.answer) ∙ answered c.args.self.now c.args.edge
