use Rattle.std.proofs.Common.{◌∙◌}
use Rattle.vme_summary.specs.Tally.{answered}
use Rattle.vme_reading.specs.Outcomes.{bench}
use Rattle.vme_summary.proofs.TraceSums.{one_summed}
use Rattle.vme_summary.proofs.summing.Summing.take_edge.Goals as goal

pub returns-clause-sum : goal.returns-clause-sum
returns-clause-sum c = λ p v es is.
    one_summed p v es c.args.edge.now c.args.self.now _ c.events_of-events.result.items is (c.step-answer.ensures.after p v es is.follows) c.events_of-events.ensures
    (λ tally few comes. c.note.ensures (answered (bench p v) es) tally c.args.self.now.following.bus few c.step-answer.ensures.answer (c.as_slice.ensures.value ∙ comes)) c.requires.room
