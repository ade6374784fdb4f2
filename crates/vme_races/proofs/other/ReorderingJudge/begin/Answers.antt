use Rattle.std.proofs.Common.{◌∙◌, [], ap, refl, reverse, sym}
use Rattle.std.proofs.KnownBytes.{Keeps-refl}
use Rattle.vme_races.proofs.AskedLines.{unasked_first}
use Rattle.vme_races.proofs.other.ReorderingJudge.begin.Goals as goal

pub returns-clause-stands : goal.returns-clause-stands
returns-clause-stands c = λ p v old is.
    let kept = c.new.ensures.kept p v is in (
      refl,
      Keeps-refl old,
      unasked_first c.args.task.now.edge p v,
      (([], kept), c.new-2.ensures.items ∙ ap (λ s. reverse s.history) (sym kept.bus)),
    )
