use Rattle.std.proofs.Common.{◌∙◌}
use Rattle.vme_model.specs.declared.signals.Driver.TheVariants.{Controller}
use Rattle.vme_model.specs.Views.{pins}
use Rattle.vme_interrupter.specs.Local.{seen}
use Rattle.vme_wiring.proofs.NoOffers.{unserved, own_state}
use Rattle.vme_wiring.proofs.waits.is_unserved.Goals as goal

pub returns-in-Some : goal.returns-in-Some
returns-in-Some c version p h r is w =
    let b = c.args.board.now in
    let x = pins p h Controller in
    c.is_pending.ensures (seen p h) x (own_state version p h r b is) ∙ unserved version p h r b c.in-Some.interrupter x is c.in-Some.is
