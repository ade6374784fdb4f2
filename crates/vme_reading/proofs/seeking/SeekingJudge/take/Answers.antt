use Rattle.std.proofs.Common.{Err, List, Ok, Option, subst, ℕ}
use Rattle.std.proofs.lemmas.Result.{err_from_is_err_and}
use Rattle.vme_reading.proofs.SoughtEdges.{come_of, written, written_cut}
use Rattle.vme_reading.proofs.seeking.SeekingJudge.take.Goals as goal

pub returns-in_err-answer-clause-takes : goal.returns-in_err-answer-clause-takes
returns-in_err-answer-clause-takes g c = λ asked p v es old h.
    let e = err_from_is_err_and c.from_residual-in_err-answer.result
    c.from_residual-in_err-answer.ensures.1 in
    let f = c.in_err-answer.field-0.0 in
    let new = g.W.Write.contents c.write.new.out in
    let come = come_of g.S.AtEdge.stands p v es c.args.edges.now c.args.self.now.edge asked.edge h.0
    c.seek.new.self.judged c.seek.new.self.at c.in-Some.edge c.in_ok-edge.field-0 c.in-Some.is
    (c.in_ok-edge.ensures.sought p v es h.2) in
    rw (e.1, e.2) (written_cut g.S.AtEdge.stands (g.S.AtEdge.writes p) g.S.AtEdge.fails asked.edge p
    v es c.args.edges.now c.args.more old new c.seek.new.self.judged c.seek.new.self.at c.in-Some.edge
    f come
    (λ ds stands n. subst
    (λ (o : Option (List ℕ)). g.S.AtEdge.writes p v ds c.in-Some.edge o new (Err f)) h.1
    (c.in_err-answer.ensures p v ds stands n)))

pub returns-in-Some-clause-takes : goal.returns-in-Some-clause-takes
returns-in-Some-clause-takes g c = λ asked p v es old h.
    let a = c.in_ok-answer.answer in
    let new = g.W.Write.contents c.write.new.out in
    let come = come_of g.S.AtEdge.stands p v es c.args.edges.now c.args.self.now.edge asked.edge h.0
    c.seek.new.self.judged c.seek.new.self.at c.in-Some.edge c.in_ok-edge.field-0 c.in-Some.is
    (c.in_ok-edge.ensures.sought p v es h.2) in
    written g.S.AtEdge.stands (g.S.AtEdge.writes p) g.S.AtEdge.fails asked.edge p
    v es c.args.edges.now c.args.more old new c.seek.new.self.judged c.seek.new.self.at c.in-Some.edge
    a come
    (λ ds stands n. subst
    (λ (o : Option (List ℕ)). g.S.AtEdge.writes p v ds c.in-Some.edge o new (Ok a)) h.1
    (c.in_ok-answer.ensures p v ds stands n))
