use Rattle.std.proofs.Common.{◌≡◌, ◌∙◌, ap, arith}
use Rattle.std.specs.Prelude.{◌||◌}
use Rattle.std.proofs.lemmas.Bool.Decides.{nat_tests}
use Rattle.vme_bus.specs.Sets.{has}
use Rattle.vme_standings.specs.declared.phases.GrantPhase.TheVariants.{Idle, Granting, Expired}
use Rattle.vme_standings.specs.Phases.{has_phase}
use Rattle.vme_standings.proofs.LevelRows.{PassesLevel, each_level}
use Rattle.vme_standings.proofs.phases.GrantPhases.free_union.Goals as goal

pub loop-level-preserved : goal.loop-level-preserved
loop-level-preserved c =
    let n = c.loop-level.level in
    let one = c.args.self.now in
    let two = c.args.other.now in
    each_level n c.either-is_idle.result c.or-lasts.result c.or-firsts.result c.loop-level.union c.set_level.new.self c.set_level.ensures
    (λ c' i l f. PassesLevel (λ q. has_phase one q || has_phase two q) c' i l f)
    (record {
      idle = c.either-is_idle.ensures ∙ ap (λ x. x || c.is_idle_at-in-loop-level.result) c.is_idle_at.ensures ∙ ap (λ x. has_phase one (Idle n) || x) c.is_idle_at-in-loop-level.ensures;
      granting = λ t l. c.or-lasts.ensures t ∙ ap (λ r. has r t || has c.granting_row-in-loop-level.result t) c.granting_row.ensures
          ∙ ap (λ r. has_phase one (Granting n t) || has r t) c.granting_row-in-loop-level.ensures;
      expired = λ t l. c.or-firsts.ensures t ∙ ap (λ r. has r t || has c.expired_row-in-loop-level.result t) c.expired_row.ensures
          ∙ ap (λ r. has_phase one (Expired n t) || has r t) c.expired_row-in-loop-level.ensures;
    })
    c.loop-level.invariant

pub returns : goal.returns
returns c =
    let ended : c.loop-level.level ≡ 4 = grind (arith, nat_tests, c.loop-level.auto.level-end, c.loop-level-test.false) in
    record {
      idle = λ n l. (c.loop-level.invariant n (omega (arith, l, ended))).idle;
      granting = λ n t l m. (c.loop-level.invariant n (omega (arith, l, ended))).granting t m;
      expired = λ n t l m. (c.loop-level.invariant n (omega (arith, l, ended))).expired t m;
    }
