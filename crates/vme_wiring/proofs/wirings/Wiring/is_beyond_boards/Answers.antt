use Rattle.std.proofs.Common.{◌∙◌, sym, ap}
use Rattle.std.specs.Prelude.{Some}
use Rattle.vme_model.specs.Settling.{is_unanswerable}
use Rattle.vme_wiring.proofs.FieldReads.{past_boards}
use Rattle.vme_wiring.proofs.wirings.Wiring.is_beyond_boards.Goals as goal

pub returns-in-Acknowledge : goal.returns-in-Acknowledge
returns-in-Acknowledge c version p h is =
    c.is_past_end.ensures ∙ past_boards version p h c.args.self.now is
    ∙ sym (ap (λ t. is_unanswerable p h (Some t)) c.in-Acknowledge.is)
