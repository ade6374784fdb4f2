use Rattle.vme_following.proofs.explains.ExplainingAtEdge.begin.Goals as goal

pub returns : goal.returns
returns c = λ p v is. record { kept_so = is; marked = c.new.ensures p }
