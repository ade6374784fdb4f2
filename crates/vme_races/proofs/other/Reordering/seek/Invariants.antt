use Rattle.std.proofs.Common.{◌≡◌, ◌+◌, ◌++◌, List, Some, take}
use Rattle.vme_model.specs.declared.signals.Edge.{Edge}
use Rattle.vme_model.specs.declared.signals.Version.{Version}
use Rattle.vme_model.specs.Plan.{Plan}
use Rattle.vme_following.specs.Explaining.{IsUnasked}
use Rattle.vme_races.specs.Listed.{AreListed}
use Rattle.vme_races.proofs.other.Reordering.seek.Given as goal

abbrev pub invariant-loop-edge : goal.invariant-loop-edge
invariant-loop-edge l = record {
  judged : l.self.racing.judged ≡ l.fn.self.racing.judged + l.edge-index;
  asked : l.self.asked ≡ l.fn.self.asked;
  listed : (p : Plan) (v : Version) (es : List Edge)
      → AreListed p v es l.fn.self.racing l.fn.self.edges.items
      → AreListed p v (es ++ take l.edge-index l.edges) l.self.racing l.self.edges.items;
  unasked : (p : Plan) (v : Version) (es : List Edge)
      → AreListed p v es l.fn.self.racing l.fn.self.edges.items
      → IsUnasked (Some l.fn.self.asked) p (Some v) es
      → IsUnasked (Some l.fn.self.asked) p (Some v) (es ++ take l.edge-index l.edges);
}
