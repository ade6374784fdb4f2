use Rattle.vme_explain.proofs.marks.Marks.made.Goals as goal

pub returns : goal.returns
returns c = λ p k is. c.made.ensures p k is.services
