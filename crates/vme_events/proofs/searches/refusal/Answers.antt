use Rattle.std.proofs.Common.{◌∙◌, ap}
use Rattle.std.specs.Result.{result_err}
use Rattle.vme_model.specs.Deliveries.{delivery}
use Rattle.vme_model.specs.Verdict.{verdict}
use Rattle.vme_events.proofs.Searched.{refused_alike}
use Rattle.vme_events.proofs.searches.refusal.Goals as goal

pub returns : goal.returns
returns c = let b = c.args.bus.now in
    c.err.ensures.value ∙ ap result_err c.answer.ensures ∙ refused_alike (verdict b c.args.edge) (delivery b.plan b.history c.args.edge)
