use Rattle.std.proofs.Common.{◌∙◌, sym, ap, ◌∷◌, []}
use Rattle.std.specs.Prelude.{if◌then◌else◌}
use Rattle.vme_model.specs.declared.signals.Wire.TheVariants.{Addr}
use Rattle.vme_model.specs.Offers.{going_on, turned}
use Rattle.vme_wiring.proofs.offers.considered_address.Goals as goal

pub returns-then-is_low : goal.returns-then-is_low
returns-then-is_low g c version p h is =
    let d = c.args.driver in
    c.turning.ensures version p h is
    ∙ sym (ap (λ b. if b then turned h d Addr ∷ [] else going_on p h d) (sym (c.is_low.ensures version p h is) ∙ c.if-is_low.true))

pub returns-else-is_low : goal.returns-else-is_low
returns-else-is_low g c version p h is =
    let d = c.args.driver in
    c.going_on.ensures version p h is
    ∙ sym (ap (λ b. if b then turned h d Addr ∷ [] else going_on p h d) (sym (c.is_low.ensures version p h is) ∙ c.if-is_low.false))
