use Rattle.std.proofs.Common.{◌≡◌, ◌+◌, ◌++◌, List, Some, length, take}
use Rattle.vme_model.specs.declared.signals.Edge.{Edge}
use Rattle.vme_model.specs.declared.signals.Version.{Version}
use Rattle.vme_model.specs.Plan.{Plan}
use Rattle.vme_following.specs.Explaining.{IsUnasked}
use Rattle.vme_shrink.specs.Sought.{IsFront}
use Rattle.vme_shrink.proofs.fronts.seek.Given as goal

abbrev pub invariant-loop-edge : goal.invariant-loop-edge
invariant-loop-edge l = record {
  number : l.number ≡ l.fn.judged + l.edge-index;
  kept : (p : Plan) (v : Version) (before : List Edge) → l.fn.judged ≡ length before
      → IsFront p v before l.fn.front → IsFront p v (before ++ take l.edge-index l.edges) l.front;
  unasked : (p : Plan) (v : Version) (before : List Edge) → l.fn.judged ≡ length before
      → IsFront p v before l.fn.front → IsUnasked l.fn.asked p (Some v) before
      → IsUnasked l.fn.asked p (Some v) (before ++ take l.edge-index l.edges);
}
