use Rattle.std.proofs.Common.{◌≡◌, ◌∙◌, ap, sym, true}
use Rattle.std.specs.Prelude.{◌&&◌, nat_lt, unwrap_or}
use Rattle.vme_model.specs.declared.signals.Driver.TheVariants.{Slot}
use Rattle.vme_model.specs.declared.signals.Wire.TheVariants.{Br}
use Rattle.vme_model.specs.History.{drive}
use Rattle.vme_model.specs.Numbered.{since}
use Rattle.vme_events.specs.Events.{fell_at}
use Rattle.vme_events.proofs.Asked.{older}
use Rattle.vme_events.proofs.before.asked_before.Goals as goal

pub returns-then-is_low : goal.returns-then-is_low
returns-then-is_low c = λ k n same marks below low.
    let h = c.args.bus.now.history in
    let d = c.args.driver in
    let other = Slot c.args.slot in
    let waits : drive h other Br ≡ true = sym (c.is_low.ensures.low) ∙ c.if-is_low.true in
    ap (λ x. nat_lt x c.asked_at-then-is_low.result) (c.asked_at.ensures k same marks)
    ∙ ap (λ x. nat_lt (unwrap_or (since k other Br) 0) x) (c.asked_at-then-is_low.ensures k same marks)
    ∙ older k h n other d Br same below waits low
    ∙ ap (λ b. b && nat_lt (fell_at h other Br) (fell_at h d Br)) (sym waits)
