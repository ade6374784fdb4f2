use Rattle.std.proofs.Common.{◌≡◌, ◌∙◌, ◌++◌, ◌∷◌, [], ℕ, List, ap, append_assoc}
use Rattle.std.specs.Prelude.{decimal}
use Rattle.vme_probe.specs.Lines.{ours_text}
use Rattle.vme_probe.proofs.lines.push_impossible.Goals as goal

regroup : (a x y z w : List ℕ) → (((a ++ x) ++ y) ++ z) ++ w ≡ a ++ (((x ++ y) ++ z) ++ w)
regroup a x y z w =
    ap (λ (l : List ℕ). (l ++ z) ++ w) (append_assoc a x y) ∙ ap (λ (l : List ℕ). l ++ w) (append_assoc a (x ++ y) z)
    ∙ append_assoc a ((x ++ y) ++ z) w

pub returns : goal.returns
returns c =
    c.push-2.ensures.items
    ∙ ap (λ (l : List ℕ). l ++ 10 ∷ []) (c.push_ours.ensures.items
    ∙ ap (λ (l : List ℕ). l ++ ours_text c.args.is_ours) (c.push_number.ensures.items ∙ ap (λ (l : List ℕ). l ++ decimal c.args.moment) c.push.ensures.items))
    ∙ regroup c.args.report.now.items _ (decimal c.args.moment) (ours_text c.args.is_ours) (10 ∷ [])
