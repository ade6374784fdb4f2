use Rattle.std.proofs.Common.{Some, ap}
use Rattle.vme_model.specs.Verdict.{State}
use Rattle.vme_shrink.proofs.WrittenStories.{front_next, front_of}
use Rattle.vme_shrink.proofs.shrinks.ShrinkingAtEdge.pass.Goals as goal

pub returns-in-Ok-clause-passes : goal.returns-in-Ok-clause-passes
returns-in-Ok-clause-passes g c = λ p v es is n.
    ap (λ (s : State). Some s) (front_next p v es c.args.edge.now c.in-Some.front c.step.new.self
    (front_of p v es c.args.self.now.front c.in-Some.front c.in-Some.is is) c.in-Ok.ensures.state)
