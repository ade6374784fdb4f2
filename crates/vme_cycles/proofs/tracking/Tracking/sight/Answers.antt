use Rattle.std.proofs.Common.{◌∙◌, ap, sym}
use Rattle.vme_model.specs.History.{shown}
use Rattle.vme_cycles.proofs.Behind.{edges_are, plan_is}
use Rattle.vme_cycles.proofs.tracking.Tracking.sight.Goals as goal

pub returns-clause-shown : goal.returns-clause-shown
returns-clause-shown c = λ p v es is.
    let f = c.args.self.now.following in
    c.shown.ensures.cycle ∙ ap (λ q. shown q f.bus.history) (plan_is p v es f is.follows) ∙ ap (shown p) (sym (edges_are p v es f is.follows))
