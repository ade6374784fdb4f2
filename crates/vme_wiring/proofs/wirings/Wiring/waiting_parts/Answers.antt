use Rattle.std.proofs.Common.{◌∙◌}
use Rattle.vme_wiring.proofs.NoOffers.{reads_grant, reads_bus}
use Rattle.vme_wiring.proofs.wirings.Wiring.waiting_parts.Goals as goal

pub returns-clause-requester : goal.returns-clause-requester
returns-clause-requester c version p h s is here = c.waits_for_grant.ensures ∙ reads_grant version p h c.args.self.now s c.args.board.now is here

pub returns-clause-master : goal.returns-clause-master
returns-clause-master c version p h s is here = c.is_master_quiet.ensures ∙ reads_bus version p h c.args.self.now s c.args.board.now is here
