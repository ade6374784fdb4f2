use Rattle.std.proofs.Common.{◌∙◌, sym, ap}
use Rattle.std.specs.Prelude.{◌&&◌}
use Rattle.std.specs.Option.{option_copied}
use Rattle.vme_model.specs.declared.boards.Row.{Row}
use Rattle.vme_model.specs.declared.signals.Driver.TheVariants.{Slot}
use Rattle.vme_model.specs.Readings.{readings}
use Rattle.vme_wiring.specs.Waits.{waits_for_grant, waits_for_bus, waits_for_cycle, is_unserved}
use Rattle.vme_wiring.proofs.NoOffers.{of_row}
use Rattle.vme_wiring.proofs.wirings.Wiring.waiting.Goals as goal

pub returns-in-Some-clause-requester : goal.returns-in-Some-clause-requester
returns-in-Some-clause-requester c version p h is =
    let s = c.args.slot in
    let here = sym (ap option_copied c.in-Some.is) ∙ c.board.ensures in
    c.waiting_parts.ensures.requester version p h s is here
    ∙ sym (of_row version p h c.args.self.now s c.in-Some.board.now is here (waits_for_grant version (readings p h (Slot s))))

pub returns-in-Some-clause-master : goal.returns-in-Some-clause-master
returns-in-Some-clause-master c version p h is =
    let s = c.args.slot in
    let here = sym (ap option_copied c.in-Some.is) ∙ c.board.ensures in
    c.waiting_parts.ensures.master version p h s is here
    ∙ sym (of_row version p h c.args.self.now s c.in-Some.board.now is here (λ r. waits_for_bus (readings p h (Slot s))))

pub returns-in-Some-clause-interrupter : goal.returns-in-Some-clause-interrupter
returns-in-Some-clause-interrupter c version p h is =
    let s = c.args.slot in
    let here = sym (ap option_copied c.in-Some.is) ∙ c.board.ensures in
    let waits = λ (r : Row). waits_for_cycle (readings p h (Slot s)) r && is_unserved (readings p h (Slot s)) r in
    c.waiting_parts.ensures.interrupter version p h s is here ∙ sym (of_row version p h c.args.self.now s c.in-Some.board.now is here waits)
