use Rattle.std.proofs.Common.{◌≡◌, ◌+◌, ◌++◌, List, Some, take}
use Rattle.vme_model.specs.declared.signals.Edge.{Edge}
use Rattle.vme_model.specs.declared.signals.Version.{Version}
use Rattle.vme_model.specs.Plan.{Plan}
use Rattle.vme_following.specs.Explaining.{IsUnasked}
use Rattle.vme_races.specs.Sought.{AreTaken}
use Rattle.vme_races.proofs.racing.Racing.seek.Given as goal

abbrev pub invariant-loop-edge : goal.invariant-loop-edge
invariant-loop-edge l = record {
  judged : l.self.judged ≡ l.fn.self.judged + l.edge-index;
  taken : (p : Plan) (v : Version) (es : List Edge) → AreTaken p v es l.fn.self
      → AreTaken p v (es ++ take l.edge-index l.edges) l.self;
  unasked : (p : Plan) (v : Version) (es : List Edge) → AreTaken p v es l.fn.self
      → IsUnasked (Some l.number) p (Some v) es
      → IsUnasked (Some l.number) p (Some v) (es ++ take l.edge-index l.edges);
}
