use Rattle.std.proofs.Common.{◌∙◌, ap}
use Rattle.std.specs.Prelude.{◌||◌, not}
use Rattle.vme_bus.specs.Sets.{has}
use Rattle.vme_bus.specs.AtWork.{interrupter_rests}
use Rattle.vme_bus.proofs.AtWork.{answers_work}
use Rattle.vme_bus.proofs.states.BusState.answering_at_work.Goals as goal

pub returns : goal.returns
returns c version p h is s =
    let b = c.args.self.now in
    c.or-2.ensures s
    ∙ ap (λ x. x || has c.and.result s) (c.or.ensures s)
    ∙ ap (λ x. (x || has b.dtack s) || has c.and.result s) (c.interrupters_at_work.ensures version p h is s)
    ∙ ap (λ x. (not (interrupter_rests p h s) || has b.dtack s) || x) (c.and.ensures s)
    ∙ answers_work version p h b s is (has c.accessed.result s) (λ near. c.accessed.ensures s near)
