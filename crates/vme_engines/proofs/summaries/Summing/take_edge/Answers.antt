use Rattle.std.proofs.Common.{◌∙◌, ap, ◌+◌}
use Rattle.vme_summary.specs.Tally.{answered}
use Rattle.vme_engines.proofs.Sums.{one_summed}
use Rattle.vme_engines.proofs.summaries.Summing.take_edge.Goals as goal

pub returns-clause-sum : goal.returns-clause-sum
returns-clause-sum c = λ b es is.
    one_summed b es c.args.edge.now c.args.self.now _ c.events-events.result.items is c.step-answer.ensures.bus (ap (λ n. n + 1) c.step-answer.ensures.judged) c.step-answer.ensures.marks c.events-events.ensures
    (λ tally few comes. c.note.ensures (answered b es) tally c.args.self.now.following.bus few c.step-answer.ensures.answer (c.as_slice.ensures.value ∙ comes)) c.requires.room
