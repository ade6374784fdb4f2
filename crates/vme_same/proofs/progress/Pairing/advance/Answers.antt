use Rattle.vme_same.proofs.progress.Pairing.advance.Goals as goal

pub returns-clause-going : goal.returns-clause-going
returns-clause-going c = λ t going.
    c.close.ensures.going t (c.match_waiting.ensures.going t going)
