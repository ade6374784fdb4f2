use Rattle.vme_same.proofs.Judging.{side_stays}
use Rattle.vme_same.proofs.sides.Side.take.Goals as goal

pub returns-in-Some-clause-side : goal.returns-in-Some-clause-side
returns-in-Some-clause-side c = λ p v es side.
    side_stays p v es c.args.edge c.args.self.now side c.in-Some.field-0 c.in-Some.is
