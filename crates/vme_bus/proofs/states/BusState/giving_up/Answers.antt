use Rattle.std.proofs.Common.{◌∙◌, ap, subst}
use Rattle.vme_model.specs.declared.signals.Driver.TheVariants.{Slot}
use Rattle.vme_model.specs.declared.signals.Wire.TheVariants.{Br}
use Rattle.vme_model.specs.History.{drive}
use Rattle.vme_model.specs.Readings.{readings, grant_in}
use Rattle.vme_model.specs.Rules.{bbsy_rises, release_guard}
use Rattle.vme_bus.proofs.states.BusState.giving_up.Goals as goal

pub returns : goal.returns
returns g c version p h r is found v some =
    let s = c.args.slot in
    let releases = release_guard (readings p h (Slot s)) in
    subst (λ k. g.A.Outcome.reports c.bbsy_rises.result k)
    (ap (λ x. bbsy_rises x c.grant_in-grant_in.result c.is_address_free.result releases) (c.has-br.ensures ∙ is.br s)
    ∙ ap (λ x. bbsy_rises (drive h (Slot s) Br) x c.is_address_free.result releases) (c.grant_in-grant_in.ensures version p h is)
    ∙ ap (λ x. bbsy_rises (drive h (Slot s) Br) (grant_in p h (Slot s)) x releases) (c.is_address_free.ensures version p h is))
    (c.bbsy_rises.ensures releases (c.releasing-releasing.ensures version p h r is found some))
