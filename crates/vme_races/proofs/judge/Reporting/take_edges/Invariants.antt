use Rattle.std.proofs.Common.{◌≡◌, ◌+◌, ◌++◌, ℕ, List, Option, take}
use Rattle.vme_model.specs.declared.signals.Edge.{Edge}
use Rattle.vme_model.specs.declared.signals.Version.{Version}
use Rattle.vme_model.specs.Plan.{Plan}
use Rattle.vme_races.specs.Kept.{Stands}
use Rattle.vme_races.proofs.judge.Reporting.take_edges.Given as goal

abbrev pub invariant-loop-edge : goal.invariant-loop-edge
invariant-loop-edge g l = record {
  judged : l.self.judged ≡ l.fn.self.judged + l.edge-index;
  stands : (p : Plan) (v : Version) (es : List Edge) (first : Option (List ℕ))
      → Stands p v es first (g.W.Write.contents l.fn.out) l.fn.self
      → Stands p v (es ++ take l.edge-index l.edges) first (g.W.Write.contents l.out) l.self;
}
