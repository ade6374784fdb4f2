use Rattle.std.proofs.Common.{◌≡◌, ◌+◌, ◌++◌, List, take}
use Rattle.vme_model.specs.declared.signals.Edge.{Edge}
use Rattle.vme_model.specs.Verdict.{State}
use Rattle.vme_show.specs.Shown.{IsShown}
use Rattle.vme_show.proofs.shows.Showing.keep_all.Given as goal

abbrev pub invariant-loop-edge : goal.invariant-loop-edge
invariant-loop-edge l = record {
  stretch : l.self.stretch ≡ l.fn.self.stretch;
  judged : l.self.judged ≡ l.fn.self.judged + l.edge-index;
  shown : (b : State) (es : List Edge) → IsShown b es l.fn.self → IsShown b (es ++ take l.edge-index l.edges) l.self;
}
