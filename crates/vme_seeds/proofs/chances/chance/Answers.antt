use Rattle.std.proofs.Common.{◌≡◌, ◌∙◌, sym, ap, ℕ, Bool, true, false, ◌+◌, ◌*◌, ◌/◌, ◌≤◌, ne_eqb, arith}
use Rattle.std.specs.Prelude.{◌==◌, if◌then◌else◌}
use Rattle.std.proofs.Math.Nat.{div-eq_of_lt}
use Rattle.vme_seeds.proofs.chances.chance.Goals as goal

else_if : (t : Bool) (n : ℕ) → t ≡ false → n ≡ (if t then 0 else n)
else_if false n h = sym (ap (λ (t : Bool). if t then 0 else n) h)
else_if true n h = absurd (cc)

-- many edges were made: further ones no longer count
many : (weight made : ℕ) → 256 ≤ made → weight ≡ weight * (1 + 256 / (1 + made))
many weight made h =
    let none : 256 / (1 + made) ≡ 0 = div-eq_of_lt (omega (arith, h)) in
    sym (ap (λ n. weight * (1 + n)) none ∙ omega arith)

pub returns-else-made-lt-MANY : goal.returns-else-made-lt-MANY
returns-else-made-lt-MANY c =
    c.from-else-made-lt-MANY.ensures ∙ many c.args.weight c.args.made c.if-made-lt-MANY.false
    ∙ else_if (c.args.ready == 0) (c.args.weight * (1 + 256 / (1 + c.args.made))) (ne_eqb c.args.ready 0 c.if-ready-eq0.false)
