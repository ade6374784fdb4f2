use Rattle.std.proofs.Common.{◌≡◌, ◌∙◌, ap, arith}
use Rattle.std.specs.Prelude.{◌&&◌}
use Rattle.std.proofs.lemmas.Bool.Decides.{nat_tests}
use Rattle.vme_bus.specs.Sets.{has}
use Rattle.vme_standings.specs.declared.phases.GrantPhase.TheVariants.{Granting, Expired}
use Rattle.vme_standings.specs.Cuts.{is_so}
use Rattle.vme_standings.specs.Phases.{has_phase}
use Rattle.vme_standings.proofs.LevelRows.{PassesLevel, each_level}
use Rattle.vme_standings.proofs.phases.GrantPhases.free_where.Goals as goal

pub loop-level-preserved : goal.loop-level-preserved
loop-level-preserved c =
    let p = c.args.plan.now in
    let n = c.loop-level.level in
    each_level n c.is_idle_where-is_idle.result c.row_where-kept_lasts.result c.row_where-kept_firsts.result c.loop-level.kept c.set_level.new.self c.set_level.ensures
    (λ c' i l f. PassesLevel (λ q. has_phase c.args.self.now q && is_so p c.args.fact q) c' i l f)
    (record {
      idle = c.is_idle_where-is_idle.ensures;
      granting = λ t l. c.row_where-kept_lasts.ensures t l ∙ ap (λ r. has r t && is_so p c.args.fact (Granting n t)) c.granting_row-lasts.ensures;
      expired = λ t l. c.row_where-kept_firsts.ensures t l ∙ ap (λ r. has r t && is_so p c.args.fact (Expired n t)) c.expired_row-firsts.ensures;
    })
    c.loop-level.invariant

pub returns : goal.returns
returns c =
    let ended : c.loop-level.level ≡ 4 = grind (arith, nat_tests, c.loop-level.auto.level-end, c.loop-level-test.false) in
    record {
      idle = λ n l. (c.loop-level.invariant n (omega (arith, l, ended))).idle;
      granting = λ n t l m. (c.loop-level.invariant n (omega (arith, l, ended))).granting t m;
      expired = λ n t l m. (c.loop-level.invariant n (omega (arith, l, ended))).expired t m;
    }
