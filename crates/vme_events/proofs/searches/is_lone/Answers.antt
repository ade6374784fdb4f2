use Rattle.std.proofs.Common.{◌∙◌, ap}
use Rattle.vme_model.specs.Failing.{unmet}
use Rattle.vme_model.specs.Verdict.{verdict}
use Rattle.vme_events.specs.Turned.{is_by_one, refusal}
use Rattle.vme_events.proofs.Searched.{lone_alike}
use Rattle.vme_events.proofs.searches.is_lone.Goals as goal

pub returns : goal.returns
returns c = let v = verdict c.args.bus.now c.args.edge in
    c.is_by_one.ensures ∙ ap (λ o. is_by_one o c.as_slice.result.now) c.refusal.ensures
    ∙ ap (is_by_one (refusal v)) (c.as_slice.ensures.value ∙ c.failing.ensures) ∙ lone_alike v (unmet c.args.bus.now c.args.edge)
