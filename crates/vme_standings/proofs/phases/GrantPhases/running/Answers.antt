use Rattle.std.proofs.Common.{◌∙◌, sym}
use Rattle.std.specs.Prelude.{◌&&◌}
use Rattle.vme_model.proofs.Bools.{and_left, and_right}
use Rattle.vme_standings.specs.Cuts.{is_possible, is_so}
use Rattle.vme_standings.specs.Phases.{has_phase, is_held, is_in_table}
use Rattle.vme_standings.proofs.Growing.{both}
use Rattle.vme_standings.proofs.SeenPhases.{alike_is, in_table, is_alike, with_bit}
use Rattle.vme_standings.proofs.phases.GrantPhases.running.Goals as goal

pub returns-clause-only : goal.returns-clause-only
returns-clause-only c q table h =
    let p = c.args.plan.now in
    let busy = is_so p c.seen_busy.result in
    let may = is_possible p c.args.version c.args.requests in
    let w = c.showing.ensures.only q table h in
    let second = sym (with_bit c.keeping-2.result (λ q. has_phase c.keeping.result q && busy q) c.keeping-2.ensures q table) ∙ w.0 in
    let first = sym (with_bit c.keeping.result (λ q. has_phase c.all.result q && may q) c.keeping.ensures q table) ∙ and_left (has_phase c.keeping.result q) (busy q) second in
    record {
      possible = and_right (has_phase c.all.result q) (may q) first;
      bbsy = alike_is c.args.is_busy (is_held q) (sym (c.seen_busy.ensures p q) ∙ and_right (has_phase c.keeping.result q) (busy q) second);
      shown = w.1;
    }

pub returns-clause-all : goal.returns-clause-all
returns-clause-all c q table can =
    let p = c.args.plan.now in
    let busy = is_so p c.seen_busy.result in
    let may = is_possible p c.args.version c.args.requests in
    let all = in_table c.all.result is_in_table c.all.ensures q table ∙ table in
    let first = in_table c.keeping.result (λ q. has_phase c.all.result q && may q) c.keeping.ensures q table ∙ both (has_phase c.all.result q) (may q) all can.possible in
    let second = in_table c.keeping-2.result (λ q. has_phase c.keeping.result q && busy q) c.keeping-2.ensures q table
    ∙ both (has_phase c.keeping.result q) (busy q) first (c.seen_busy.ensures p q ∙ is_alike c.args.is_busy (is_held q) can.bbsy) in
    c.showing.ensures.all q table second can.shown
