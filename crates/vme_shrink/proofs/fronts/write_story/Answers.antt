use Rattle.std.proofs.Common.{◌∷◌, [], ◌++◌, ◌∙◌, All, IsTrue, ap, if◌then◌else◌, is_ok, subst, sym}
use Rattle.std.proofs.lemmas.Result.{err_from_is_err_and}
use Rattle.std.specs.Io.KnownBytes.{Appends}
use Rattle.vme_model.specs.declared.signals.Edge.{Edge}
use Rattle.vme_model.specs.History.{in_order}
use Rattle.vme_model.specs.Report.{at_power_up, trace_limit}
use Rattle.vme_model.specs.Signals.{is_well_formed}
use Rattle.vme_model.specs.Text.{text}
use Rattle.vme_model.specs.Verdict.{State, verdict}
use Rattle.vme_trace.specs.Writing.{AppendsFront}
use Rattle.vme_reading.specs.declared.Status.TheVariants.{Done, SomeRefused}
use Rattle.vme_shrink.proofs.WrittenStories.{story_cut, story_formed, story_text}
use Rattle.vme_shrink.proofs.fronts.write_story.Goals as goal

pub write_trace-requires-clause-edges : goal.write_trace-requires-clause-edges
write_trace-requires-clause-edges g c =
    let b : State = at_power_up c.args.front.version c.args.front.plan trace_limit in
    subst (All (λ d. IsTrue (is_well_formed d))) (sym c.deref.ensures.value)
    (story_formed b (in_order c.args.front.history) c.args.edge.now c.in-Ok.story.items
    c.in-Ok.ensures)

pub returns-in_err-write_trace : goal.returns-in_err-write_trace
returns-in_err-write_trace g c = λ p v before is.
    let e = err_from_is_err_and c.from_residual.result c.from_residual.ensures.1 in
    rw (e.1, e.2) (story_cut p v before c.args.edge.now (g.W.Write.contents c.args.out.now)
    (g.W.Write.contents c.write_trace.new.out) c.in_err-write_trace.field-0.0
    (text c.version-version.result (c.deref.result.now ++ c.args.edge.now ∷ []))
    c.in_err-write_trace.ensures.fault
    (story_text p v before c.args.front c.args.edge.now c.in-Ok.story.items c.deref.result.now
    c.version-version.result is c.version-version.ensures c.deref.ensures.value c.in-Ok.ensures)
    (subst (λ (d : Edge). AppendsFront (g.W.Write.contents c.args.out.now)
    (g.W.Write.contents c.write_trace.new.out)
    (text c.version-version.result (c.deref.result.now ++ d ∷ []))) c.of.ensures
    c.in_err-write_trace.ensures.front))

pub returns : goal.returns
returns g c = λ p v before is. (
  c.status_if-status.ensures
      ∙ ap (λ t. if t then Done else SomeRefused) (c.is_ok.ensures.value
      ∙ ap is_ok (c.verdict.ensures ∙ ap (λ (s : State). verdict s c.args.edge.now) is)),
  text c.version-version.result (c.deref.result.now ++ c.args.edge.now ∷ []),
  story_text p v before c.args.front c.args.edge.now c.in-Ok.story.items c.deref.result.now
      c.version-version.result is c.version-version.ensures c.deref.ensures.value c.in-Ok.ensures,
  subst (λ (d : Edge). Appends (g.W.Write.contents c.args.out.now)
      (g.W.Write.contents c.write_trace.new.out)
      (text c.version-version.result (c.deref.result.now ++ d ∷ []))) c.of.ensures
      c.in_ok-write_trace.ensures.ok,
)
