-- A whole trace whose edges are a legal list.
use Rattle.std.specs.Prelude.{◌≡◌, ◌≤◌, length, reverse, Some, None}
use Rattle.vme_model.specs.declared.signals.Version.{Version}
use Rattle.vme_model.specs.Plan.{Plan}
use Rattle.vme_model.specs.Verdict.{IsLegal}
use Rattle.vme_model.specs.Safe.{IsSafe}
use Rattle.vme_model.specs.Text.{Reading}
use Rattle.vme_model.specs.Report.{trace_limit}
use Rattle.vme_reading.specs.Refusals.{IsUnrefused}

-- A whole trace of which no edge is refused: its edges are a legal list of its version, and so a
-- safe one, and are few enough to be kept.
pub record IsLegalTrace (p : Plan) (r : Reading) : Type 0 where
  pub version : Version
  pub named : r.version ≡ Some version
  pub whole : r.fault ≡ None
  pub unrefused : IsUnrefused p r
  pub legal : IsLegal version p (reverse r.edges)
  pub safe : IsSafe p (reverse r.edges)
  pub fits : length r.edges ≤ trace_limit
