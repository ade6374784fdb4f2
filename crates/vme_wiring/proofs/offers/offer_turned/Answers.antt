use Rattle.std.proofs.Common.{◌∙◌, ap, ◌++◌, ◌∷◌, [], filter}
use Rattle.vme_model.specs.declared.signals.Edge.{Edge}
use Rattle.vme_wiring.specs.Offered.{is_open}
use Rattle.vme_wiring.proofs.offers.offer_turned.Goals as goal

pub returns-clause-offered : goal.returns-clause-offered
returns-clause-offered g c version p h is =
    c.offer.ensures.offered version p h is
    ∙ ap (λ (e : Edge). c.args.offers.now.items ++ filter (is_open version p h) (e ∷ [])) (c.turned.ensures version p h is)
