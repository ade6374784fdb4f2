use Rattle.std.proofs.Common.{◌∙◌, ap}
use Rattle.vme_model.specs.Verdict.{verdict}
use Rattle.vme_events.specs.Turned.{is_rule}
use Rattle.vme_events.proofs.Searched.{rule_alike}
use Rattle.vme_events.proofs.searches.fails_rule.Goals as goal

pub returns : goal.returns
returns c = c.is_rule.ensures ∙ ap (is_rule c.args.rule) c.refusal.ensures ∙ rule_alike c.args.rule (verdict c.args.bus.now c.args.edge)
