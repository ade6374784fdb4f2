use Rattle.std.proofs.Common.{◌<◌, sym, subst, ℕ, arith}
use Rattle.vme_standings.proofs.Slots.{input_near}
use Rattle.vme_standings.proofs.driving.last_place.Goals as goal

pub returns-clause-near : goal.returns-clause-near
returns-clause-near c =
    subst (λ (n : ℕ). n < 22) (sym c.input_place.ensures) (input_near c.args.plan.now 22 (omega arith))
