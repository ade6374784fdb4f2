use Rattle.std.proofs.Common.{◌∙◌, sym}
use Rattle.vme_same.proofs.Judging.{next_number, side_ends, side_goes}
use Rattle.vme_same.proofs.sides.Side.take_next.Goals as goal

pub returns-in-Ok-clause-side : goal.returns-in-Ok-clause-side
returns-in-Ok-clause-side c = λ p v es side none.
    side_goes p v es c.args.edge c.args.self.now side none c.note.new.self
    (sym (c.verdict-verdict.ensures.verdict p v es side none) ∙ c.in-Ok.is)
    c.in-Ok.ensures.room c.in-Ok.ensures.allowed c.note.ensures

pub returns-in-Ok-clause-next : goal.returns-in-Ok-clause-next
returns-in-Ok-clause-next c = λ p v es side none also.
    next_number p v es c.args.edge c.args.self.now side none
    (sym (c.verdict-verdict.ensures.verdict p v es side none) ∙ c.in-Ok.is)

pub returns-in-Err-clause-side : goal.returns-in-Err-clause-side
returns-in-Err-clause-side c = λ p v es side none.
    side_ends p v es c.args.edge c.args.self.now side none c.in-Err.refused
    (sym (c.verdict-verdict.ensures.verdict p v es side none) ∙ c.in-Err.is)
