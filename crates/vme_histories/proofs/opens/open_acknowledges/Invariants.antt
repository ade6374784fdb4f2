use Rattle.std.proofs.Common.{◌≡◌, ◌≤◌, ◌+◌, ◌-◌, ◌++◌, filter, length, map, List}
use Rattle.vme_model.specs.declared.signals.Driver.TheVariants.{Slot}
use Rattle.vme_model.specs.declared.signals.Cycle.TheVariants.{Acknowledge}
use Rattle.vme_model.specs.declared.signals.Edge.{Edge}
use Rattle.vme_model.specs.declared.signals.Version.{Version}
use Rattle.vme_model.specs.Plan.{Plan, up_to}
use Rattle.vme_model.specs.Open.{showing}
use Rattle.vme_histories.specs.Offered.{is_open}
use Rattle.vme_histories.proofs.opens.open_acknowledges.Given as goal

abbrev pub invariant-loop-level : goal.invariant-loop-level
invariant-loop-level g l = record {
  opened : (version : Version) (p : Plan) (h : List Edge) → g.J.Judges.is_of version p h l.state →
      l.edges.items ≡ l.fn.edges.items ++ filter (is_open version p h) (map (showing (Slot l.fn.slot)) (map (λ n. Acknowledge n) (up_to (l.level - 1))));
  few : length l.edges.items + 1 ≤ length l.fn.edges.items + l.level;
}
