-- The edges that lead to a state.
use Rattle.std.specs.Prelude.{◌≡◌, List}
use Rattle.vme_model.specs.declared.signals.Edge.{Edge}
use Rattle.vme_model.specs.History.{in_order}
use Rattle.vme_model.specs.Report.{at_power_up, trace_limit}
use Rattle.vme_model.specs.Verdict.{State, kept}

-- these edges were made since power-up, and no others
pub record LeadsTo (edges : List Edge) (b : State) : Type 0 where
  pub made : edges ≡ in_order b.history
  pub leads : b ≡ kept (at_power_up b.version b.plan trace_limit) edges
