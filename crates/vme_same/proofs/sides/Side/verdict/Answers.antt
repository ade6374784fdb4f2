use Rattle.std.proofs.Common.{◌∙◌, arith, sym}
use Rattle.vme_same.proofs.Judging.{before, full_there, refused_there, room_there}
use Rattle.vme_same.proofs.sides.Side.verdict.Goals as goal

pub returns-then-self-from-clause-verdict : goal.returns-then-self-from-clause-verdict
returns-then-self-from-clause-verdict c = λ p v es side none.
    let now = c.args.self.now in
    sym (room_there p v es c.args.edge now side none
    (sym (c.judge_by_wire.ensures v p (before p v es c.args.edge) (side.unrefused none).state) ∙ c.in-Ok.is)
    (omega arith))

pub returns-else-self-from-clause-verdict : goal.returns-else-self-from-clause-verdict
returns-else-self-from-clause-verdict c = λ p v es side none.
    let now = c.args.self.now in
    sym (full_there p v es c.args.edge now side none
    (sym (c.judge_by_wire.ensures v p (before p v es c.args.edge) (side.unrefused none).state) ∙ c.in-Ok.is)
    (omega arith))

pub returns-in-Err-clause-verdict : goal.returns-in-Err-clause-verdict
returns-in-Err-clause-verdict c = λ p v es side none.
    sym (refused_there p v es c.args.edge c.in-Err.refused
    (sym (c.judge_by_wire.ensures v p (before p v es c.args.edge) (side.unrefused none).state) ∙ c.in-Err.is))
