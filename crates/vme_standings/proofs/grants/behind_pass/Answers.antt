use Rattle.std.proofs.Common.{◌∙◌, sym}
use Rattle.std.specs.Prelude.{◌==◌}
use Rattle.vme_standings.specs.Grants.{is_passed}
use Rattle.vme_standings.proofs.Rows.{granting_added, granting_only}
use Rattle.vme_standings.proofs.grants.behind_pass.Goals as goal

pub returns-then-is_passed : goal.returns-then-is_passed
returns-then-is_passed c =
    let change = c.set_granting_row.ensures in
    let none = c.none-behind.ensures in
    let rest = granting_added _ _ _ _ change none in
    record {
      idle = rest.0;
      granting = granting_only _ _ (λ t. t == c.args.slot) _ _ (is_passed c.args.plan.now c.args.version c.args.level c.args.slot c.args.phases.now) change none c.just.ensures
          (sym c.is_passed.ensures ∙ c.if-is_passed.true);
      held = rest.1;
      expired = rest.2;
    }
