use Rattle.vme_explain.proofs.marks.Marks.strobed_at.Goals as goal

pub returns : goal.returns
returns c = λ p k is. c.strobed_at.ensures p k is.services
