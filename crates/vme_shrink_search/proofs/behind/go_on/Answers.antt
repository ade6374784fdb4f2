use Rattle.std.proofs.Common.{◌∙◌, ap}
use Rattle.vme_model.specs.Verdict.{after}
use Rattle.vme_shrink_search.proofs.Lists.{kept_next}
use Rattle.vme_shrink_search.proofs.behind.go_on.Goals as goal

pub loop-code-preserved : goal.loop-code-preserved
loop-code-preserved c = record {
  state = kept_next c.args.bus.now c.loop-code.bus c.take_in.new.bus c.args.edges.now
      c.loop-code.code-index c.code-item.result c.loop-code-test.true c.loop-code.invariant.state
      (c.in_ok-take_in.ensures.state ∙ ap (after c.loop-code.bus) c.code-item.is);
  made = c.in_ok-take_in.ensures.made;
}
