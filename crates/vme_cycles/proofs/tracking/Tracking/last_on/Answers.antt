use Rattle.std.proofs.Common.{◌≡◌, ◌∙◌, ap, unwrap_or}
use Rattle.vme_model.specs.Numbered.{since}
use Rattle.vme_cycles.proofs.Behind.{of_trace}
use Rattle.vme_cycles.proofs.tracking.Tracking.last_on.Goals as goal

pub returns : goal.returns
returns c = λ p v es is.
    c.unwrap_or.ensures ∙ ap (λ o. unwrap_or o 0) (of_trace p v es c.args.self.now.following is.follows (λ k. c.since.result ≡ since k c.args.driver c.args.wire) c.since.ensures)
