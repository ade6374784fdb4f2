use Rattle.std.proofs.Common.{◌∙◌, false, sym, ap}
use Rattle.std.specs.Prelude.{◌&&◌, ◌==◌, slice_index_or}
use Rattle.vme_bus.specs.Sets.{has}
use Rattle.vme_standings.specs.GrantChains.{is_follower}
use Rattle.vme_standings.specs.Grants.{is_let_go, is_run_out}
use Rattle.vme_standings.specs.Phases.{no_slots}
use Rattle.vme_standings.proofs.Rows.{expired_only, idle_only}
use Rattle.vme_standings.proofs.grants.behind_rise.Goals as goal

pub returns-then-is_run_out : goal.returns-then-is_run_out
returns-then-is_run_out c =
    let p = c.args.plan.now in
    let place = c.args.place in
    let held = c.held_behind_rise-behind.ensures in
    let first = c.set_expired_row.ensures in
    let later = c.set_idle.ensures in
    let yes = sym c.is_run_out.ensures ∙ c.if-is_run_out.true in
    let next = c.followers-next.ensures in
    record {
      idle = idle_only c.args.level _ _ _ _ (is_run_out p c.args.version c.args.level place c.args.phases.now) later
          (λ n l. ap (λ xs. slice_index_or xs n false) first.idle ∙ held.idle n l)
          (ap (λ x. place == x) c.end_place.ensures) yes;
      granting = λ n t l m. ap (λ xs. has (slice_index_or xs n no_slots) t) (later.granting ∙ first.granting) ∙ held.granting n t l m;
      held = λ b t l m. ap (λ xs. has (slice_index_or xs b no_slots) t) (later.held ∙ first.held) ∙ held.held b t l m
          ∙ ap (λ x. is_let_go p c.args.level place c.args.phases.now b && x) (next t);
      expired = λ n t l m. ap (λ xs. has (slice_index_or xs n no_slots) t) later.expired
          ∙ expired_only c.args.level _ (is_follower p c.args.level place) _ _ (is_run_out p c.args.version c.args.level place c.args.phases.now) first held.expired next yes n t l m;
    }
