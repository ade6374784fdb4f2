use Rattle.std.proofs.Common.{◌≡◌, ◌∙◌, ◌<◌, ◌≤◌, ℕ, true, ap, arith}
use Rattle.std.specs.Prelude.{◌&&◌, nat_lt}
use Rattle.std.proofs.lemmas.Bool.Decides.{nat_tests}
use Rattle.vme_bus.specs.Sets.{has}
use Rattle.vme_standings.specs.Cuts.{is_so, phase_at}
use Rattle.vme_standings.proofs.Growing.{grow}
use Rattle.vme_standings.proofs.cuts.row_where.Goals as goal

below : (t k : ℕ) → t < 32 → 32 ≤ k → nat_lt t k ≡ true
below t k l far = grind (arith, nat_tests)

pub loop-place-preserved : goal.loop-place-preserved
loop-place-preserved c =
    grow (has c.loop-place.kept) (has c.with_if-kept.result) (λ t. has c.args.places t && is_so c.args.plan.now c.args.fact
    (phase_at c.args.row t)) c.loop-place.place c.is_so_at.result c.with_if-kept.ensures c.loop-place.invariant c.is_so_at.ensures

pub returns : goal.returns
returns c t l =
    c.loop-place.invariant t
    ∙ ap (λ b. b && (has c.args.places t && is_so c.args.plan.now c.args.fact (phase_at c.args.row t))) (below t c.loop-place.place l c.loop-place-test.false)
