use Rattle.std.proofs.Common.{◌≡◌, take}
use Rattle.vme_model.specs.Report.{at_power_up, trace_limit}
use Rattle.vme_model.specs.Verdict.{kept}
use Rattle.vme_events.specs.Places.{by_place}
use Rattle.vme_explain.specs.Marked.{IsMarksOf}
use Rattle.vme_shrink_search.proofs.behind.marks_of.Given as goal

abbrev pub invariant-loop-code : goal.invariant-loop-code
invariant-loop-code l = record {
  state : l.bus ≡ kept (at_power_up l.fn.bus.version l.fn.bus.plan trace_limit)
      (take l.code-index l.made);
  marks : IsMarksOf l.bus.plan (by_place l.bus.history) l.marks;
}
