use Rattle.std.proofs.Common.{◌≡◌, ℕ, ◌≤◌, ◌<◌, false, List}
use Rattle.std.specs.Prelude.{◌&&◌, nat_lt, is_some}
use Rattle.vme_model.specs.declared.signals.Edge.{Edge}
use Rattle.vme_model.specs.declared.signals.Version.{Version}
use Rattle.vme_model.specs.Plan.{Plan, board}
use Rattle.vme_wiring.proofs.offers.board_above.Given as goal

abbrev pub invariant-loop-other : goal.invariant-loop-other
invariant-loop-other g l = (version : Version) (p : Plan) (h : List Edge) → g.J.Judges.is_of version p h l.state →
    (k : ℕ) → 1 ≤ k → k < l.other → (nat_lt l.fn.slot k && is_some (board p k)) ≡ false
