use Rattle.std.proofs.Common.{refl}
use Rattle.vme_model.specs.declared.signals.Part.TheVariants as parts
use Rattle.vme_bus.proofs.Parts.{of_its_part, requests_of, masters_of}
use Rattle.vme_bus.proofs.states.BusState.board_rule.Goals as goal

pub returns-in-Requester-clause-number : goal.returns-in-Requester-clause-number
returns-in-Requester-clause-number g c r version reads v known =
    c.requester_rule.ensures.number version reads v (of_its_part parts.Requester c.args.wire _ c.part.ensures c.in-Requester.is refl)

pub returns-in-Requester-clause-answer : goal.returns-in-Requester-clause-answer
returns-in-Requester-clause-answer g c version p h r is found drives formed =
    let own = of_its_part parts.Requester c.args.wire _ c.part.ensures c.in-Requester.is refl in
    c.requester_rule.ensures.answer version p h r is found c.args.value own (requests_of c.args.wire r own drives)

pub returns-in-Master-clause-number : goal.returns-in-Master-clause-number
returns-in-Master-clause-number g c r version reads v known =
    c.master_rule.ensures.number version reads v (of_its_part parts.Master c.args.wire _ c.part.ensures c.in-Master.is refl)

pub returns-in-Master-clause-answer : goal.returns-in-Master-clause-answer
returns-in-Master-clause-answer g c version p h r is found drives formed =
    let own = of_its_part parts.Master c.args.wire _ c.part.ensures c.in-Master.is refl in
    c.master_rule.ensures.answer version p h r is found own (masters_of c.args.wire r own drives) formed

pub returns-in-Interrupter-clause-number : goal.returns-in-Interrupter-clause-number
returns-in-Interrupter-clause-number g c r version reads v known =
    c.interrupter_rule.ensures.number version reads v (of_its_part parts.Interrupter c.args.wire _ c.part.ensures c.in-Interrupter.is refl)

pub returns-in-Interrupter-clause-answer : goal.returns-in-Interrupter-clause-answer
returns-in-Interrupter-clause-answer g c version p h r is found drives formed =
    c.interrupter_rule.ensures.answer version p h r is found c.args.value (of_its_part parts.Interrupter c.args.wire _ c.part.ensures c.in-Interrupter.is refl)
