use Rattle.std.proofs.Common.{◌≡◌, ◌∙◌, ℕ, ap, arith}
use Rattle.std.specs.Prelude.{◌&&◌, nat_le, nat_lt}
use Rattle.std.proofs.lemmas.Bool.Decides.{nat_tests}
use Rattle.vme_bus.specs.Sets.{has}
use Rattle.vme_model.specs.Signals.{is_two}
use Rattle.vme_standings.specs.GrantChains.{place_before}
use Rattle.vme_standings.specs.Unseen.{is_unseen, rises_unseen}
use Rattle.vme_standings.proofs.Slots.{level_below_and}
use Rattle.vme_standings.proofs.unseen.expired_rises.Goals as goal

up_to : (t : ℕ) → nat_le t 21 ≡ nat_lt t 22
up_to t = grind (arith, nat_tests)

pub returns : goal.returns
returns c t =
    let p = c.args.plan.now in
    let n = c.args.level in
    let rise = rises_unseen p c.args.probed.now n t in
    c.row_if.ensures t
    ∙ ap (λ b. b && has c.rises.result t) c.is_two.ensures
    ∙ ap (λ b. is_two c.args.version && b) (c.rises.ensures t ∙ ap (λ b. b && rise) (up_to t) ∙ level_below_and p c.accepted.ensures n t (is_unseen c.args.probed.now n (place_before p n t)))
