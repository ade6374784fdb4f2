use Rattle.std.proofs.Common.{◌≡◌, ◌+◌, ◌++◌, Bool, List, false, take}
use Rattle.vme_model.specs.declared.signals.Edge.{Edge}
use Rattle.vme_model.specs.declared.signals.Version.{Version}
use Rattle.vme_model.specs.Plan.{Plan}
use Rattle.vme_same.specs.Kept.{Runs}
use Rattle.vme_same.proofs.matching.Matching.add_to_second.Given as goal

abbrev pub invariant-loop-edge : goal.invariant-loop-edge
invariant-loop-edge l = record {
  judged : l.self.second.judged ≡ l.fn.self.second.judged + l.edge-index;
  others : l.self.first ≡ l.fn.self.first;
  runs : (p : Plan) (v w : Version) (es : List Edge) (ended : Bool) (fs : List Edge)
      → Runs p v w es ended fs false l.fn.self
      → Runs p v w es ended (fs ++ take l.edge-index l.edges) false l.self;
}
