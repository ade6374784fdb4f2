use Rattle.std.proofs.Common.{◌∙◌, sym}
use Rattle.std.specs.Prelude.{◌==◌}
use Rattle.vme_standings.specs.Grants.{is_granted}
use Rattle.vme_standings.proofs.Rows.{granting_added, granting_only}
use Rattle.vme_standings.proofs.grants.behind_grant.Goals as goal

pub returns-then-is_granted : goal.returns-then-is_granted
returns-then-is_granted c =
    let change = c.set_granting_row.ensures in
    let none = c.none-behind.ensures in
    let rest = granting_added _ _ _ _ change none in
    record {
      idle = rest.0;
      granting = granting_only _ _ (λ t. t == 0) _ _ (is_granted c.args.plan.now c.args.requests c.args.level c.args.phases.now) change none c.just.ensures
          (sym c.is_granted.ensures ∙ c.if-is_granted.true);
      held = rest.1;
      expired = rest.2;
    }
