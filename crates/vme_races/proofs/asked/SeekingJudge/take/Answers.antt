use Rattle.std.proofs.Common.{◌≡◌, Ok, false, rules}
use Rattle.std.proofs.lemmas.Result.{err_from_is_err_and}
use Rattle.std.proofs.KnownBytes.{Keeps-refl}
use Rattle.vme_races.proofs.AskedLines.{met_of, none_of, prints, prints_cut, prints_end, prints_none, prints_stop}
use Rattle.vme_races.proofs.asked.SeekingJudge.take.Goals as goal

pub returns-in_err-edge-clause-takes : goal.returns-in_err-edge-clause-takes
returns-in_err-edge-clause-takes g c = λ task p v es old h.
    let e = err_from_is_err_and c.from_residual.result c.from_residual.ensures.1 in
    let mid = g.W.Write.contents c.args.out.now in
    rw (e.1, e.2) (prints_none task.edge p v es c.args.edges.now c.args.more old mid mid h.1
    c.in_err-edge.field-0.0 c.in_err-edge.ensures.fault (Keeps-refl mid))

pub returns-in_err-status-clause-takes : goal.returns-in_err-status-clause-takes
returns-in_err-status-clause-takes g c = λ task p v es old h.
    let e = err_from_is_err_and c.from_residual-in_err-status.result
    c.from_residual-in_err-status.ensures.1 in
    let mid = g.W.Write.contents c.args.out.now in
    let new = g.W.Write.contents c.write_line_of.new.out in
    let met = met_of c.args.self.now.edge task.edge h.0 p v es c.args.edges.now
    c.seek.new.self c.in-Some.edge c.in_ok-edge.field-0
    (c.in_ok-edge.ensures.sought p v es h.3) c.in-Some.is in
    rw (e.1, e.2) (prints_cut task.edge p v es c.args.edges.now c.args.more old mid new h.1
    c.seek.new.self c.in-Some.edge c.in_err-status.field-0.0 c.in_err-status.ensures.fault met
    (λ ds is. c.in_err-status.ensures.cuts p v ds is))

pub returns-in-Some-clause-takes : goal.returns-in-Some-clause-takes
returns-in-Some-clause-takes g c = λ task p v es old h.
    let mid = g.W.Write.contents c.args.out.now in
    let new = g.W.Write.contents c.write_line_of.new.out in
    let met = met_of c.args.self.now.edge task.edge h.0 p v es c.args.edges.now
    c.seek.new.self c.in-Some.edge c.in_ok-edge.field-0
    (c.in_ok-edge.ensures.sought p v es h.3) c.in-Some.is in
    prints task.edge p v es c.args.edges.now c.args.more old mid new h.1
    c.seek.new.self c.in-Some.edge c.in_ok-status.status met
    (λ ds is. c.in_ok-status.ensures.writes p v ds is)

pub returns-in-Ok-true-clause-takes : goal.returns-in-Ok-true-clause-takes
returns-in-Ok-true-clause-takes g c = λ task p v es old h.
    let none = none_of c.args.self.now.edge task.edge h.0 p v es c.args.edges.now
    c.seek.new.self c.in_ok-edge.field-0
    (c.in_ok-edge.ensures.sought p v es h.3) c.in_default.is h.2 in
    (h.0, h.1, none.1, none.0)

pub returns-in-Ok-false-clause-takes : goal.returns-in-Ok-false-clause-takes
returns-in-Ok-false-clause-takes g c = λ task p v es old h.
    let is : c.args.more ≡ Ok false = search rules in
    let mid = g.W.Write.contents c.args.out.now in
    let none = none_of c.args.self.now.edge task.edge h.0 p v es c.args.edges.now
    c.seek.new.self c.in_ok-edge.field-0
    (c.in_ok-edge.ensures.sought p v es h.3) c.in_default.is h.2 in
    prints_end task.edge p v es c.args.edges.now c.args.more old mid mid h.1
    c.seek.new.self.judged is (Keeps-refl mid) none.0.1.judged none.1

pub returns-in-Err-clause-takes : goal.returns-in-Err-clause-takes
returns-in-Err-clause-takes g c = λ task p v es old h.
    let mid = g.W.Write.contents c.args.out.now in
    let none = none_of c.args.self.now.edge task.edge h.0 p v es c.args.edges.now
    c.seek.new.self c.in_ok-edge.field-0
    (c.in_ok-edge.ensures.sought p v es h.3) c.in_default.is h.2 in
    prints_stop task.edge p v es c.args.edges.now c.args.more old mid mid h.1
    c.in-Err.fault c.in-Err.is (Keeps-refl mid) none.1
