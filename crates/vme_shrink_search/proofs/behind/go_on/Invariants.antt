use Rattle.std.proofs.Common.{◌≡◌, take}
use Rattle.vme_model.specs.History.{in_order}
use Rattle.vme_model.specs.Verdict.{kept}
use Rattle.vme_shrink_search.proofs.behind.go_on.Given as goal

abbrev pub invariant-loop-code : goal.invariant-loop-code
invariant-loop-code l = record {
  state : l.bus ≡ kept l.fn.bus (take l.code-index l.edges);
  made : l.made.items ≡ in_order l.bus.history;
}
