use Rattle.std.proofs.Common.{◌≡◌, ◌∙◌, Ok, Err, false, rules, subst}
use Rattle.std.proofs.lemmas.Result.{err_from_is_err_and}
use Rattle.std.proofs.KnownBytes.{Keeps-refl}
use Rattle.vme_races.specs.Listed.{WritesOrder}
use Rattle.vme_races.proofs.OtherOrders.{met_of, none_of, orders_by, orders_end, orders_stop}
use Rattle.vme_races.proofs.other.ReorderingJudge.take.Goals as goal

pub returns-in_err-write_race-clause-takes : goal.returns-in_err-write_race-clause-takes
returns-in_err-write_race-clause-takes g c = λ task p v es old h.
    let e = err_from_is_err_and c.from_residual-in_err-write_race.result
    c.from_residual-in_err-write_race.ensures.1 in
    let mid = g.W.Write.contents c.args.out.now in
    let new = g.W.Write.contents c.write_race.new.out in
    let now = c.seek.new.self in
    let met = met_of c.args.self.now.asked task.edge h.0 p v es c.args.edges.now now.racing
    now.edges.items c.in-Some.edge c.in_ok-edge.field-0 (c.in_ok-edge.ensures.sought p v es h.3)
    c.in-Some.is in
    rw (e.1, e.2) (orders_by task.edge p v es c.args.edges.now c.args.more old mid new h.1
    now.racing now.edges.items c.in-Some.edge met.0 met.1 (Err c.in_err-write_race.field-0.0)
    (λ ds is. subst (WritesOrder p v ds c.in-Some.edge mid new) c.in_err-write_race.was
    (c.write_race.ensures p v ds is)))

pub returns-in-Some-clause-takes : goal.returns-in-Some-clause-takes
returns-in-Some-clause-takes g c = λ task p v es old h.
    let mid = g.W.Write.contents c.args.out.now in
    let new = g.W.Write.contents c.write_race.new.out in
    let now = c.seek.new.self in
    let met = met_of c.args.self.now.asked task.edge h.0 p v es c.args.edges.now now.racing
    now.edges.items c.in-Some.edge c.in_ok-edge.field-0 (c.in_ok-edge.ensures.sought p v es h.3)
    c.in-Some.is in
    orders_by task.edge p v es c.args.edges.now c.args.more old mid new h.1
    now.racing now.edges.items c.in-Some.edge met.0 met.1 (Ok c.in_ok-write_race.field-0)
    (λ ds is. subst (WritesOrder p v ds c.in-Some.edge mid new) c.in_ok-write_race.was
    (c.write_race.ensures p v ds is))

pub returns-in-Ok-true-clause-takes : goal.returns-in-Ok-true-clause-takes
returns-in-Ok-true-clause-takes g c = λ task p v es old h.
    let now = c.seek.new.self in
    let none = none_of c.args.self.now.asked task.edge h.0 p v es c.args.edges.now now.racing
    now.edges.items c.in_ok-edge.field-0 (c.in_ok-edge.ensures.sought p v es h.3) c.in_default.is
    h.2 in
    (c.seek.ensures.asked ∙ h.0, h.1, none.1, none.0)

pub returns-in-Ok-false-clause-takes : goal.returns-in-Ok-false-clause-takes
returns-in-Ok-false-clause-takes g c = λ task p v es old h.
    let is : c.args.more ≡ Ok false = search rules in
    let mid = g.W.Write.contents c.args.out.now in
    let now = c.seek.new.self in
    let none = none_of c.args.self.now.asked task.edge h.0 p v es c.args.edges.now now.racing
    now.edges.items c.in_ok-edge.field-0 (c.in_ok-edge.ensures.sought p v es h.3) c.in_default.is
    h.2 in
    orders_end task.edge p v es c.args.edges.now c.args.more old mid mid h.1 now.racing.judged is
    (Keeps-refl mid) none.0.0.1.judged none.1

pub returns-in-Err-clause-takes : goal.returns-in-Err-clause-takes
returns-in-Err-clause-takes g c = λ task p v es old h.
    let mid = g.W.Write.contents c.args.out.now in
    let now = c.seek.new.self in
    let none = none_of c.args.self.now.asked task.edge h.0 p v es c.args.edges.now now.racing
    now.edges.items c.in_ok-edge.field-0 (c.in_ok-edge.ensures.sought p v es h.3) c.in_default.is
    h.2 in
    orders_stop task.edge p v es c.args.edges.now c.args.more old mid mid h.1 c.in-Err.fault
    c.in-Err.is (Keeps-refl mid) none.1
