use Rattle.std.proofs.Common.{◌∙◌}
use Rattle.vme_standings.proofs.Growing.{same_either}
use Rattle.vme_standings.proofs.driving.can_rise.Goals as goal

pub returns : goal.returns
returns c =
    c.either.ensures
    ∙ same_either _ _ _ _ c.is_run_out-is_run_out.ensures c.is_let_go_by_some-is_let_go.ensures
