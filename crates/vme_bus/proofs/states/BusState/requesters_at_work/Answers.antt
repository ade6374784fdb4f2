use Rattle.std.proofs.Common.{◌∙◌, sym, ap}
use Rattle.std.specs.Prelude.{◌&&◌, not}
use Rattle.vme_model.specs.Signals.{is_two}
use Rattle.vme_bus.specs.Sets.{has}
use Rattle.vme_bus.proofs.AtWork.{requesters_of_two, requesters_of_one}
use Rattle.vme_bus.proofs.states.BusState.requesters_at_work.Goals as goal

pub returns-then-is_two : goal.returns-then-is_two
returns-then-is_two c version p h is s =
    requesters_of_two version p h c.args.self.now s is
    (ap is_two (sym is.rules) ∙ ap is_two (sym c.version.ensures) ∙ sym c.is_two.ensures ∙ c.if-is_two.true)

pub returns-else-is_two : goal.returns-else-is_two
returns-else-is_two c version p h is s =
    let b = c.args.self.now in
    c.except.ensures s
    ∙ ap (λ x. has b.layout.requesters s && not x) (c.ungranted.ensures s)
    ∙ requesters_of_one version p h b s is
    (ap is_two (sym is.rules) ∙ ap is_two (sym c.version.ensures) ∙ sym c.is_two.ensures ∙ c.if-is_two.false)
