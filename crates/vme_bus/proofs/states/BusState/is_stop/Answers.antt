use Rattle.std.proofs.Common.{◌∙◌, ap}
use Rattle.std.specs.Prelude.{◌&&◌, not}
use Rattle.vme_bus.specs.Sets.{has}
use Rattle.vme_bus.proofs.Standing.{stops_at}
use Rattle.vme_bus.proofs.states.BusState.is_stop.Goals as goal

pub returns : goal.returns
returns c version p h is =
    let b = c.args.self.now in
    let s = c.args.slot in
    c.has.ensures ∙ c.except-2.ensures s ∙ ap (λ x. x && not (has b.bbsy s)) (c.except.ensures s) ∙ stops_at version p h b s is
