use Rattle.std.proofs.Common.{◌∙◌, sym, ap, subst, ◌+◌}
use Rattle.vme_seeds.specs.Walks.{Walk}
use Rattle.vme_events.specs.Places.{by_place}
use Rattle.vme_explain.specs.Marked.{IsMarksOf}
use Rattle.vme_drive.proofs.SoughtGoals.{marked_more}
use Rattle.vme_drive.proofs.seeks.make.Goals as goal

pub returns-clause-marks : goal.returns-clause-marks
returns-clause-marks c =
    subst (λ (w : Walk). IsMarksOf w.state.plan (by_place w.state.history) c.note.new.self) (sym c.make.ensures)
    (marked_more c.bus-bus.result.now c.args.walk.now.state c.args.marks.now c.note.new.self c.args.edge (c.from-place.result + 1) c.shown-shown.result c.bus-bus.ensures
    (ap (λ n. n + 1) (c.from-place.ensures ∙ c.len.ensures)) c.shown-shown.ensures.cycle c.requires.marked (λ p k of is. c.note.ensures p k of (λ dtack. is)))
