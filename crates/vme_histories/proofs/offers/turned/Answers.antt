use Rattle.std.proofs.Common.{ap, Bool}
use Rattle.std.specs.Prelude.{not, None}
use Rattle.vme_model.specs.declared.signals.Edge.{Edge}
use Rattle.vme_histories.proofs.offers.turned.Goals as goal

pub returns : goal.returns
returns g c version p h is =
    let f : Bool → Edge = λ b. record { driver = c.args.driver; wire = c.args.wire; fall = not b; value = None } in
    ap f (c.is_low.ensures version p h is)
