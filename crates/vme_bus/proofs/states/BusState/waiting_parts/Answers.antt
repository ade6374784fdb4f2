use Rattle.std.proofs.Common.{◌∙◌, ap}
use Rattle.std.specs.Prelude.{not}
use Rattle.vme_bus.proofs.AtWork.{twice}
use Rattle.vme_bus.proofs.states.BusState.waiting_parts.Goals as goal

pub returns-clause-requester : goal.returns-clause-requester
returns-clause-requester c version p h is = ap not (c.has.ensures ∙ c.requesters_at_work.ensures version p h is c.args.slot) ∙ twice _

pub returns-clause-master : goal.returns-clause-master
returns-clause-master c version p h is = ap not (c.has-2.ensures ∙ c.masters_at_work.ensures version p h is c.args.slot) ∙ twice _

pub returns-clause-interrupter : goal.returns-clause-interrupter
returns-clause-interrupter c version p h is = ap not (c.has-3.ensures ∙ c.answering_at_work.ensures version p h is c.args.slot) ∙ twice _
