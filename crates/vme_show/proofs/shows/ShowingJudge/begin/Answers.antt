use Rattle.std.proofs.Common.{◌∙◌, [], arith, subst}
use Rattle.std.proofs.KnownBytes.{Keeps-refl}
use Rattle.vme_model.specs.Verdict.{State}
use Rattle.vme_show.specs.Stretches.{IsStretch}
use Rattle.vme_show.specs.Shown.{IsShown}
use Rattle.vme_show.proofs.shows.ShowingJudge.begin.Goals as goal

pub returns-clause-count : goal.returns-clause-count
returns-clause-count c = c.new.ensures.fresh.none.judged

pub returns-clause-stands : goal.returns-clause-stands
returns-clause-stands c = λ p v old is.
    let stretch : IsStretch c.args.task.now = subst IsStretch c.new.ensures.stretch c.new.ensures.fresh.stretch in
    let some = stretch.some in
    let order = stretch.order in (
      c.new.ensures.stretch,
      stretch,
      Keeps-refl old,
      omega (arith, some, order),
      subst (λ (b : State). IsShown b [] c.new.result) (c.new.ensures.bus ∙ is) c.new.ensures.fresh.none,
    )
