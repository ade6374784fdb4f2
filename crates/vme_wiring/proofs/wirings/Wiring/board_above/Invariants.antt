use Rattle.std.proofs.Common.{◌≡◌, ℕ, ◌≤◌, ◌<◌, false, List}
use Rattle.std.specs.Prelude.{◌&&◌, nat_lt, is_some}
use Rattle.vme_model.specs.declared.signals.Edge.{Edge}
use Rattle.vme_model.specs.declared.signals.Version.{Version}
use Rattle.vme_model.specs.Plan.{Plan, board}
use Rattle.vme_wiring.specs.Wired.{IsWiringOf}
use Rattle.vme_wiring.proofs.wirings.Wiring.board_above.Given as goal

abbrev pub invariant-loop-other : goal.invariant-loop-other
invariant-loop-other l = (version : Version) (p : Plan) (h : List Edge) → IsWiringOf version p h l.self →
    (k : ℕ) → 1 ≤ k → k < l.other → (nat_lt l.fn.slot k && is_some (board p k)) ≡ false
