use Rattle.std.proofs.Common.{◌∙◌, ap, Option, Bool, false, unwrap_or}
use Rattle.vme_model.specs.Plan.{has_driver}
use Rattle.vme_model.specs.History.{drive}
use Rattle.vme_wiring.proofs.FieldReads.{never_drove}
use Rattle.vme_pictures.proofs.Rises.{or_high}
use Rattle.vme_pictures.proofs.wires.is_low.Goals as goal

pub returns : goal.returns
returns c =
    let b = c.args.bus.now in
    c.unwrap_or.ensures ∙ ap (λ (o : Option Bool). unwrap_or o false) c.state.ensures
    ∙ or_high (has_driver b.plan c.args.driver c.args.wire) (drive b.history c.args.driver c.args.wire) (never_drove b.version b.plan b.history c.args.driver c.args.wire c.laws.ensures.legal)
