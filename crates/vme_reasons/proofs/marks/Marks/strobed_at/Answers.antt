use Rattle.vme_reasons.proofs.marks.Marks.strobed_at.Goals as goal

pub returns : goal.returns
returns c = λ p k is. c.strobed_at.ensures p k is.services
