use Rattle.std.proofs.Common.{◌∙◌}
use Rattle.vme_shrink_search.specs.Replies.{level_named, pick_named}
use Rattle.vme_shrink_search.proofs.Marks.{brought_if}
use Rattle.vme_shrink_search.proofs.behind.reply_behind.Goals as goal

pub returns-clause-reply : goal.returns-clause-reply
returns-clause-reply c =
    let level = c.level_named-level.ensures ∙ (λ i. level_named
    ((c.as_slice.ensures.value ∙ c.failing-failing.ensures) i) (c.shown.ensures.cycle i)) in
    let pick = c.pick_named-pick.ensures ∙ (λ i. pick_named
    ((c.as_slice-2.ensures.value ∙ c.failing-failing.ensures) i) c.args.bus.now) in
    (λ i. record {
      answer = c.answer-answer.ensures i;
      failing = c.failing-failing.ensures i;
      level = level i;
      pick = pick i;
      events = (c.events_behind-events.ensures.events
          ∙ brought_if c.args.bus.now c.args.edge c.answer-answer.result c.is_ok.result
          c.answer-answer.ensures c.is_ok.ensures.value) i;
    })
