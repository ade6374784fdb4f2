use Rattle.std.proofs.Common.{◌≡◌, ◌∙◌, sym, ap}
use Rattle.vme_wiring.proofs.Seeing.{unanswerable}
use Rattle.vme_wiring.proofs.wirings.Wiring.is_unanswerable.Goals as goal

pub returns-in-Some-Acknowledge : goal.returns-in-Some-Acknowledge
returns-in-Some-Acknowledge c version p h is =
    let a = c.in-Some-Acknowledge.is in
    let b = c.in-Some-Acknowledge.field-0-is in
    c.is_past_end.ensures ∙ unanswerable version p h c.args.self.now c.in-Some-Acknowledge.field-0-0 is ?
