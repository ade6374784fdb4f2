use Rattle.std.proofs.Common.{◌∙◌, ap, arith, subst, sym}
use Rattle.std.proofs.lemmas.List.{take_all}
use Rattle.vme_model.specs.Report.{at_power_up, trace_limit}
use Rattle.vme_model.specs.Verdict.{State, after, kept}
use Rattle.vme_events.specs.Places.{by_place}
use Rattle.vme_explain.specs.Marked.{IsMarksOf}
use Rattle.vme_shrink_search.proofs.Lists.{kept_next}
use Rattle.vme_shrink_search.proofs.behind.marks_of.Goals as goal

pub loop-code-init : goal.loop-code-init
loop-code-init c = record {
  state = c.restart.ensures;
  marks = subst (λ (s : State). IsMarksOf s.plan (by_place s.history) c.new-marks.result)
      (sym c.restart.ensures) (c.new-marks.ensures c.args.bus.now.plan);
}

pub loop-code-preserved : goal.loop-code-preserved
loop-code-preserved c = record {
  state = kept_next (at_power_up c.args.bus.now.version c.args.bus.now.plan trace_limit)
      c.loop-code.bus c.mark.new.bus c.args.made.now c.loop-code.code-index c.code-item.result
      c.loop-code-test.true c.loop-code.invariant.state
      (c.mark.ensures.state ∙ ap (after c.loop-code.bus) (c.edge.ensures ∙ c.code-item.is));
  marks = c.mark.ensures.marks;
}

pub returns-clause-state : goal.returns-clause-state
returns-clause-state c =
    c.loop-code.invariant.state
    ∙ ap (kept (at_power_up c.args.bus.now.version c.args.bus.now.plan trace_limit))
    (take_all c.loop-code.code-index c.args.made.now (omega arith))
    ∙ sym c.requires.leads
