use Rattle.std.proofs.Common.{◌≡◌, ◌∙◌, ap}
use Rattle.vme_model.specs.Verdict.{State}
use Rattle.vme_stories.specs.Replies.{brought, level_named, reply_at}
use Rattle.vme_stories.proofs.Marks.{brought_ok, brought_err}
use Rattle.vme_stories.proofs.behind.Behind.reply.Goals as goal
use Rattle.vme_stories.proofs.behind.Behind.reply.Goals.{in-Ok, in-Err}

pub returns : goal.returns
returns c =
    let b : State = c.self.inside.bus in
    let same = c.self.view_is in
    let events : c.match-answer.events.items ≡ brought b c.args.edge =
    elim c.match-answer.branch [
      | in-Ok w ↦ ap (λ e. e.items) w.events-is ∙ w.events-events.ensures
          ∙ brought_ok b c.args.self.now c.args.edge c.answer-answer.result _ same
          c.answer-answer.ensures w.in-Ok.is
      | in-Err w ↦ ap (λ e. e.items) w.events-is ∙ w.new-events.ensures
          ∙ brought_err b c.args.edge c.answer-answer.result _ c.answer-answer.ensures w.in-Err.is
    ] in
    let level = c.level_named-level.ensures ∙ (λ i. level_named
    ((c.as_slice.ensures.value ∙ c.failing-failing.ensures) i) (c.shown.ensures.cycle i)) in
    (λ i. record {
      answer = c.answer-answer.ensures i;
      failing = c.failing-failing.ensures i;
      level = level i;
      events = events i;
    })
    ∙ ap (λ (s : State). reply_at s c.args.edge) same
