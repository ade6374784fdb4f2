use Rattle.std.proofs.Common.{◌≡◌, ◌∙◌, true, is_ok, ap, length, subst, sym}
use Rattle.vme_model.specs.Verdict.{State, made, verdict}
use Rattle.vme_events.specs.Places.{by_place}
use Rattle.vme_explain.specs.Marked.{IsMarksOf}
use Rattle.vme_stories.proofs.Lists.{made_by}
use Rattle.vme_stories.proofs.Marks.{marked_more, ok_of}
use Rattle.vme_stories.proofs.behind.mark.Goals as goal

pub returns-clause-marks : goal.returns-clause-marks
returns-clause-marks c =
    let b : State = c.args.bus.now in
    let ok : is_ok (verdict b c.args.edge) ≡ true =
    sym c.step.ensures.accepted ∙ ok_of c.step.result c.is_err.result c.is_err.ensures.value
    c.if-is_err.false in
    let now : c.step.new.self ≡ made b c.args.edge =
    c.step.ensures.state ∙ made_by b c.args.edge (is_ok (verdict b c.args.edge)) ok in
    subst (λ (s : State). IsMarksOf s.plan (by_place s.history) c.note.new.self) (sym now)
    (marked_more b.plan b.history c.args.marks.now c.note.new.self c.args.edge c.from.result
    c.shown_at-shown.result (c.from.ensures ∙ c.len.ensures ∙ ap (λ (s : State). length s.history) now)
    c.shown_at-shown.ensures c.requires c.note.ensures)
