use Rattle.std.proofs.Common.{◌≡◌, ◌||◌, ◌∙◌, Ok, false, ap, subst, sym, arith}
use Rattle.vme_shrink_search.proofs.Searches.{IsPassing, Steps, pass_end, pass_first, pass_step}
use Rattle.vme_shrink_search.proofs.search.Search.pass.Goals as goal

pub ends-init : goal.ends-init
ends-init g c =
    subst (λ n. IsPassing c.args.self.now c.args.self.now c.args.size n false)
    (let all = c.args.self.now.list.ok.0 in omega (arith, all, c.len-end.ensures))
    (pass_first c.args.self.now c.args.size c.requires.search)

pub leave_out-requires-clause-search : goal.leave_out-requires-clause-search
leave_out-requires-clause-search g c = c.ends.invariant.left.on.search

pub leave_out-requires-clause-within : goal.leave_out-requires-clause-within
leave_out-requires-clause-within g c = omega (arith, c.saturating_sub-begin.ensures)

pub leave_out-requires-clause-end : goal.leave_out-requires-clause-end
leave_out-requires-clause-end g c = c.ends.invariant.within

pub ends-preserved : goal.ends-preserved
ends-preserved g c =
    let first = c.args.self.now in
    let now = c.ends.self in
    let next = c.leave_out.new.self in
    let left = c.in_ok-has_left_now.has_left_now in
    let begin = c.saturating_sub-begin.ensures in
    let step : Steps now next c.saturating_sub-begin.result c.ends.end left = record {
      on = c.in_ok-has_left_now.ensures.on;
      left = λ h. c.leave_out.ensures.left (c.in_ok-has_left_now.was ∙ ap Ok h);
      stays = λ h. c.leave_out.ensures.stays (c.in_ok-has_left_now.was ∙ ap Ok h);
      other = λ h. c.leave_out.ensures.other (c.in_ok-has_left_now.was ∙ ap Ok h);
    } in
    subst (λ n. IsPassing first next c.args.size n (c.ends.has_left || left)) (sym begin)
    (pass_step first now next c.args.size c.ends.end c.ends.has_left left c.requires.size
    (omega arith) c.ends.invariant (subst (λ n. Steps now next n c.ends.end left) begin step))

pub returns-clause-left : goal.returns-clause-left
returns-clause-left g c = c.ends.invariant.left

pub returns-clause-tight : goal.returns-clause-tight
returns-clause-tight g c =
    let none : c.ends.end ≡ 0 = omega arith in
    pass_end c.args.self.now c.ends.self c.args.size c.ends.has_left
    (subst (λ n. IsPassing c.args.self.now c.ends.self c.args.size n c.ends.has_left) none
    c.ends.invariant)
