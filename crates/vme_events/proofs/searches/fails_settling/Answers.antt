use Rattle.std.proofs.Common.{◌∙◌, ap}
use Rattle.vme_model.specs.Verdict.{verdict}
use Rattle.vme_events.specs.Turned.{is_settling}
use Rattle.vme_events.proofs.Searched.{settling_alike}
use Rattle.vme_events.proofs.searches.fails_settling.Goals as goal

pub returns : goal.returns
returns c = c.is_settling.ensures ∙ ap (is_settling c.args.rule) c.refusal.ensures ∙ settling_alike c.args.rule (verdict c.args.bus.now c.args.edge)
