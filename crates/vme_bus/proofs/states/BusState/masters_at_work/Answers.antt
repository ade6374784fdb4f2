use Rattle.std.proofs.Common.{◌∙◌, ap}
use Rattle.std.specs.Prelude.{◌||◌}
use Rattle.vme_bus.specs.Sets.{has}
use Rattle.vme_bus.proofs.AtWork.{masters_work}
use Rattle.vme_bus.proofs.states.BusState.masters_at_work.Goals as goal

pub returns : goal.returns
returns c version p h is s =
    let b = c.args.self.now in
    c.or-2.ensures s ∙ ap (λ x. has b.bbsy s || x) (c.or-showing.ensures s ∙ ap (λ x. x || has b.data_strobe s) (c.or.ensures s)) ∙ masters_work version p h b s is
