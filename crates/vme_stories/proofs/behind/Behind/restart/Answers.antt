use Rattle.std.proofs.Common.{subst, sym}
use Rattle.vme_model.specs.Verdict.{State}
use Rattle.vme_events.specs.Places.{by_place}
use Rattle.vme_explain.specs.Marked.{IsMarksOf}
use Rattle.vme_stories.proofs.behind.Behind.restart.Goals as goal

pub invariant_of-self : goal.invariant_of-self
invariant_of-self c =
    subst (λ (s : State). IsMarksOf s.plan (by_place s.history) c.new-self-inside.result)
    (sym c.restart.ensures) (c.new-self-inside.ensures c.self.inside.bus.plan)
