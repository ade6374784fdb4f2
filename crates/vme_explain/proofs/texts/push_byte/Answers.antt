use Rattle.std.proofs.Common.{ℕ, ◌+◌, ◌/◌, ◌%◌, List, [], ◌∷◌, ◌++◌, ◌∙◌, ap, arith}
use Rattle.vme_explain.proofs.ByteDigits.{digit_alone, digit_behind}
use Rattle.vme_explain.proofs.texts.push_byte.Goals as goal
use Rattle.vme_explain.proofs.texts.push_byte.Goals.{then-n-ge100, else-n-ge100, then-n-ge10, else-n-ge10}

pub returns-clause-items : goal.returns-clause-items
returns-clause-items g c =
    let n : ℕ = c.args.n in
    let before : List ℕ = c.args.line.now.items in
    c.push-2.ensures.items
    ∙ elim c.if-n-ge10.branch [
      | then-n-ge10 w ↦
          digit_behind before _ n w.if-n-ge10.true (omega (arith, c.ranges.n.fits))
          (ap (λ l. l.items) w.line-is ∙ w.push-then-n-ge10.ensures.items
          ∙ elim c.if-n-ge100.branch [
            | then-n-ge100 v ↦
                digit_behind before _ (n / 10) (omega (arith, v.if-n-ge100.true)) (omega (arith, c.ranges.n.fits))
                (ap (λ l. l.items) v.line-is ∙ v.push.ensures.items ∙ digit_alone before (n / 10 / 10) (n / 100) (omega arith) (omega (arith, c.ranges.n.fits)))
            | else-n-ge100 v ↦
                ap (λ l. l.items ++ (48 + n / 10 % 10) ∷ []) v.line-is
                ∙ digit_alone before (n / 10) (n / 10 % 10) (omega (arith, v.if-n-ge100.false)) (omega (arith, v.if-n-ge100.false))
          ])
      | else-n-ge10 w ↦
          ap (λ l. l.items ++ (48 + n % 10) ∷ []) w.line-is
          ∙ elim c.if-n-ge100.branch [
            | then-n-ge100 v ↦ absurd (omega (arith, v.if-n-ge100.true, w.if-n-ge10.false))
            | else-n-ge100 v ↦
                ap (λ l. l.items ++ (48 + n % 10) ∷ []) v.line-is ∙ digit_alone before n (n % 10) (omega (arith, w.if-n-ge10.false)) w.if-n-ge10.false
          ]
    ]
