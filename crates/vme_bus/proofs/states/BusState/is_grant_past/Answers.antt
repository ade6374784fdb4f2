use Rattle.std.proofs.Common.{◌<◌, ◌∙◌, ap, get_or, arith}
use Rattle.std.specs.Prelude.{min}
use Rattle.vme_model.specs.History.{is_past_end}
use Rattle.vme_bus.specs.Sets.{has}
use Rattle.vme_bus.proofs.Asked.{last_chain}
use Rattle.vme_bus.proofs.Inputs.{grant_end_reads}
use Rattle.vme_bus.proofs.states.BusState.is_grant_past.Goals as goal

pub returns : goal.returns
returns c version p h is =
    let b = c.args.self.now in
    let n = min c.args.level 3 in
    let l : min c.args.level 3 < 4 = grind arith in
    c.has.ensures
    ∙ ap (λ n. has b.grants (get_or b.layout.grant_ends n 0)) (c.from.ensures ∙ c.min.ensures)
    ∙ ap (λ s. has b.grants s) (is.layout.grant_ends n l)
    ∙ grant_end_reads version p h b n l is
    ∙ ap (is_past_end p h) (last_chain c.args.level)
