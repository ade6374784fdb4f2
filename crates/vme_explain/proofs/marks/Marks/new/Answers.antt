use Rattle.vme_explain.proofs.marks.Marks.new.Goals as goal

pub returns : goal.returns
returns c = λ p. record { moves = c.new.ensures; services = c.new-2.ensures p }
