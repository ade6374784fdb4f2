use Rattle.vme_races.proofs.other.ReorderingAtEdge.write.Goals as goal

pub returns : goal.returns
returns g c = λ p v es are number. c.write_race.ensures p v es are
