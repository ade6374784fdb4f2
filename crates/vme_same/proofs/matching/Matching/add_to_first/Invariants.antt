use Rattle.std.proofs.Common.{◌≡◌, ◌+◌, ◌++◌, Bool, List, false, take}
use Rattle.vme_model.specs.declared.signals.Edge.{Edge}
use Rattle.vme_model.specs.declared.signals.Version.{Version}
use Rattle.vme_model.specs.Plan.{Plan}
use Rattle.vme_same.specs.Kept.{Runs}
use Rattle.vme_same.proofs.matching.Matching.add_to_first.Given as goal

abbrev pub invariant-loop-edge : goal.invariant-loop-edge
invariant-loop-edge l = record {
  judged : l.self.first.judged ≡ l.fn.self.first.judged + l.edge-index;
  others : l.self.second ≡ l.fn.self.second;
  runs : (p : Plan) (v w : Version) (es fs : List Edge) (over : Bool)
      → Runs p v w es false fs over l.fn.self
      → Runs p v w (es ++ take l.edge-index l.edges) false fs over l.self;
}
