use Rattle.std.proofs.Common.{subst, sym}
use Rattle.vme_model.specs.Verdict.{State}
use Rattle.vme_events.specs.Places.{by_place}
use Rattle.vme_explain.specs.Marked.{IsMarksOf}
use Rattle.vme_stories.proofs.behind.Behind.new.Goals as goal

pub invariant_of-result : goal.invariant_of-result
invariant_of-result c =
    subst (λ (s : State). IsMarksOf s.plan (by_place s.history) c.new.result) (sym c.restart.ensures)
    (c.new.ensures c.args.bus.plan)
