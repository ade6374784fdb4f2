use Rattle.std.proofs.Common.{◌+◌, arith, subst, sym}
use Rattle.vme_model.specs.Verdict.{State}
use Rattle.vme_events.specs.Places.{by_place}
use Rattle.vme_explain.specs.Marked.{IsMarksOf}
use Rattle.vme_shrink_search.proofs.Marks.{marked_next}
use Rattle.vme_shrink_search.proofs.behind.mark.Goals as goal

pub returns-clause-marks : goal.returns-clause-marks
returns-clause-marks c =
    subst (λ (s : State). IsMarksOf s.plan (by_place s.history) c.step_marked.new.marks)
    (sym c.step_marked.ensures.state)
    (marked_next c.args.bus.now c.args.edge (c.from-place.result + 1) c.args.marks.now c.step_marked.new.marks
    (let count = c.from-place.ensures in let len = c.len.ensures in omega (arith, count, len)) c.requires
    c.step_marked.ensures.noted)
