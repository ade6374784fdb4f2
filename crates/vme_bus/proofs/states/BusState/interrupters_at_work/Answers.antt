use Rattle.std.proofs.Common.{◌∙◌, ap}
use Rattle.std.specs.Prelude.{◌&&◌, not}
use Rattle.vme_bus.specs.Sets.{has}
use Rattle.vme_bus.proofs.AtWork.{interrupters_work}
use Rattle.vme_bus.proofs.states.BusState.interrupters_at_work.Goals as goal

pub returns : goal.returns
returns c version p h is s =
    let b = c.args.self.now in
    c.except.ensures s ∙ ap (λ x. has b.layout.interrupters s && not x) (c.unreached.ensures s) ∙ interrupters_work version p h b s is
