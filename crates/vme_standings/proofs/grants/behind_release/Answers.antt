use Rattle.std.proofs.Common.{◌≡◌, ◌∙◌, ap, arith}
use Rattle.std.specs.Prelude.{slice_index_or}
use Rattle.std.specs.List.{list_any}
use Rattle.std.proofs.lemmas.Bool.Decides.{nat_tests}
use Rattle.vme_bus.specs.Sets.{has}
use Rattle.vme_model.specs.Plan.{active, grant_chain}
use Rattle.vme_standings.specs.Grants.{can_release}
use Rattle.vme_standings.specs.Phases.{no_slots}
use Rattle.vme_standings.proofs.Rows.{any_same, idle_step, near_is}
use Rattle.vme_standings.proofs.grants.behind_release.Goals as goal

pub loop-level-preserved : goal.loop-level-preserved
loop-level-preserved c =
    let inv = c.loop-level.invariant in
    let change = c.set_idle.ensures in
    record {
      made = idle_step c.loop-level.level _ c.loop-level.behind _ (λ n. list_any (has c.releasers-boards.result) (active c.args.plan.now (grant_chain n))) change inv.made c.is_one_of_level.ensures;
      granting = λ n t l m. ap (λ xs. has (slice_index_or xs n no_slots) t) change.granting ∙ inv.granting n t l m;
      held = λ n t l m. ap (λ xs. has (slice_index_or xs n no_slots) t) change.held ∙ inv.held n t l m;
      expired = λ n t l m. ap (λ xs. has (slice_index_or xs n no_slots) t) change.expired ∙ inv.expired n t l m;
    }

pub returns : goal.returns
returns c =
    let inv = c.loop-level.invariant in
    let ended : c.loop-level.level ≡ 4 = grind (arith, nat_tests, c.loop-level.auto.level-end, c.loop-level-test.false) in
    record {
      idle = λ n l. inv.made n (omega (arith, l, ended)) ∙ any_same (has c.releasers-boards.result) (can_release c.args.plan.now c.args.requests c.args.phases.now) c.releasers-boards.ensures
          (active c.args.plan.now (grant_chain n)) ∙ near_is n l _;
      granting = inv.granting;
      held = inv.held;
      expired = inv.expired;
    }
