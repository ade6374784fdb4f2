use Rattle.std.proofs.Common.{◌∙◌, [], ap, reverse, sym}
use Rattle.vme_races.proofs.other.ReorderingAtEdge.begin.Goals as goal

pub returns : goal.returns
returns c = λ p v is.
    let kept = c.new.ensures p v is in
    (([], kept), c.new-2.ensures.items ∙ ap (λ s. reverse s.history) (sym kept.bus))
