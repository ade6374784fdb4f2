-- An edge that is made is well formed.
use Rattle.std.proofs.Common.{◌≡◌, Bool, true, false, refl}
use Rattle.std.specs.Prelude.{◌&&◌, Option, Ok}
use Rattle.std.proofs.lemmas.Bool.{and_parts}
use Rattle.vme_model.specs.declared.deliveries.Delivery.{Delivery}
use Rattle.vme_model.specs.declared.refusals.Refused.TheVariants.{NoSuchDriver}
use Rattle.vme_model.specs.declared.signals.Edge.{Edge}
use Rattle.vme_model.specs.Plan.{has_driver}
use Rattle.vme_model.specs.Signals.{is_well_formed}
use Rattle.vme_model.specs.Verdict.{State, Judgement, check}
use Rattle.vme_model.specs.Deliveries.{answer, delivery, with_delivery}

-- what the first test lets through is well formed
first : (b : Bool) (rest : Judgement) (x d : Option Delivery) → with_delivery (check b NoSuchDriver rest) x ≡ Ok d → b ≡ true
first true rest x d is = refl
first false rest x d is = absurd (cc)

pub answered_is_well_formed : (b : State) (e : Edge) (d : Option Delivery) → answer b e ≡ Ok d → is_well_formed e ≡ true
answered_is_well_formed b e d is =
    (and_parts (is_well_formed e) (has_driver b.plan e.driver e.wire) (first (is_well_formed e && has_driver b.plan e.driver e.wire) _ (delivery b.plan b.history e) d is)).0
