use Rattle.std.proofs.Common.{◌≡◌, ◌+◌, ◌++◌, List, take}
use Rattle.vme_model.specs.declared.signals.Edge.{Edge}
use Rattle.vme_model.specs.declared.signals.Version.{Version}
use Rattle.vme_model.specs.Plan.{Plan}
use Rattle.vme_reading.specs.Sought.{HasPassed}
use Rattle.vme_reading.proofs.seeking.Seeking.seek.Given as goal

abbrev pub invariant-loop-edge : goal.invariant-loop-edge
invariant-loop-edge g l = record {
  edge : l.self.edge ≡ l.fn.self.edge;
  judged : l.self.judged ≡ l.fn.self.judged + l.edge-index;
  passed : (p : Plan) (v : Version) (es : List Edge)
      → HasPassed g.S.AtEdge.stands l.fn.self.edge p v es l.fn.self.judged l.fn.self.at
      → HasPassed g.S.AtEdge.stands l.fn.self.edge p v (es ++ take l.edge-index l.edges)
      l.self.judged l.self.at;
}
