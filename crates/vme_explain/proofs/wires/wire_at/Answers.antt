use Rattle.std.proofs.Common.{◌≡◌, ◌∙◌, ap, Bool}
use Rattle.vme_model.specs.History.{drive, shown}
use Rattle.vme_model.specs.Numbered.{since}
use Rattle.vme_explain.specs.Witnessed.{value_shown}
use Rattle.vme_explain.proofs.Witnessed.{wire_at_is}
use Rattle.vme_explain.proofs.wires.wire_at.Goals as goal

pub returns : goal.returns
returns c = λ k at is.
    let b = c.args.bus.now in
    let d = c.args.driver in
    let w = c.args.wire in
    let low : c.is_low-low.result ≡ drive b.history d w = c.is_low-low.ensures.low in
    let value : c.value_shown.result ≡ value_shown w (drive b.history d w) (shown b.plan b.history) = c.value_shown.ensures ∙ ap (λ (x : Bool). value_shown w x (shown b.plan b.history)) low in
    let number : c.since.result ≡ since k d w = c.since.ensures b.plan k is in
    let whole = wire_at_is b k d w c.args.level in
    cc
