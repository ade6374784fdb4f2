use Rattle.std.proofs.Common.{◌≡◌, ◌+◌, ◌∙◌, Ok, ap, false, length, refl, rules, subst, sym}
use Rattle.std.proofs.lemmas.Result.{err_from_is_err_and}
use Rattle.std.proofs.KnownBytes.{Keeps-refl}
use Rattle.vme_shrink.specs.Shrinking.{WritesStory}
use Rattle.vme_shrink.proofs.WrittenStories.{counted, front_is, met_of, none_of, writes, writes_end, writes_fault, writes_legal, writes_legal_cut, writes_stop}
use Rattle.vme_shrink.proofs.shrinks.ShrinkingJudge.take.Goals as goal

pub returns-in_err-status-clause-takes : goal.returns-in_err-status-clause-takes
returns-in_err-status-clause-takes g c = λ task p v es old h.
    let e = err_from_is_err_and c.from_residual-in_err-status.result
    c.from_residual-in_err-status.ensures.1 in
    let mid = g.W.Write.contents c.args.out.now in
    let new = g.W.Write.contents c.write_story.new.out in
    let front = front_is p v es c.args.self.now.front c.take.result c.in-Some.front h.4.0
    c.take.ensures.value c.in-Some.is h.4.1 h.4.2 in
    let met = met_of c.args.self.now.asked.edge task.edge (ap (λ a. a.edge) h.0) p v es
    c.args.edges.now c.seek.new.front c.in-Some-2.edge c.in_ok-edge.field-0
    (c.in_ok-edge.ensures.sought p v es h.3 front) c.in-Some-2.is h.2 in
    rw (e.1, e.2) (writes_fault task.edge p v es c.args.edges.now c.args.more old mid new h.1
    c.seek.new.front c.in-Some-2.edge c.in_err-status.field-0.0 met
    (λ ds is. subst (WritesStory p v ds c.in-Some-2.edge mid new) c.in_err-status.was
    (c.write_story.ensures p v ds is)))

pub returns-in-Some-2-clause-takes : goal.returns-in-Some-2-clause-takes
returns-in-Some-2-clause-takes g c = λ task p v es old h.
    let mid = g.W.Write.contents c.args.out.now in
    let new = g.W.Write.contents c.write_story.new.out in
    let front = front_is p v es c.args.self.now.front c.take.result c.in-Some.front h.4.0
    c.take.ensures.value c.in-Some.is h.4.1 h.4.2 in
    let met = met_of c.args.self.now.asked.edge task.edge (ap (λ a. a.edge) h.0) p v es
    c.args.edges.now c.seek.new.front c.in-Some-2.edge c.in_ok-edge.field-0
    (c.in_ok-edge.ensures.sought p v es h.3 front) c.in-Some-2.is h.2 in
    writes task.edge p v es c.args.edges.now c.args.more old mid new h.1
    c.seek.new.front c.in-Some-2.edge c.in_ok-status.status met
    (λ ds is. subst (WritesStory p v ds c.in-Some-2.edge mid new) c.in_ok-status.was
    (c.write_story.ensures p v ds is))

pub returns-in_err-write_finding-in-Ok-false-None-clause-takes :
    goal.returns-in_err-write_finding-in-Ok-false-None-clause-takes
returns-in_err-write_finding-in-Ok-false-None-clause-takes g c = λ task p v es old h.
    let e = err_from_is_err_and c.from_residual-in_err-write_finding-in-Ok-false-None.result
    c.from_residual-in_err-write_finding-in-Ok-false-None.ensures.1 in
    let is : c.args.more ≡ Ok false = search rules in
    let mid = g.W.Write.contents c.args.out.now in
    let front = front_is p v es c.args.self.now.front c.take.result c.in-Some.front h.4.0
    c.take.ensures.value c.in-Some.is h.4.1 h.4.2 in
    let none = none_of c.args.self.now.asked.edge task.edge (ap (λ a. a.edge) h.0) p v es
    c.args.edges.now c.seek.new.front c.in_ok-edge.field-0
    (c.in_ok-edge.ensures.sought p v es h.3 front) c.in_default-2.is h.2 in
    rw (e.1, e.2) (writes_legal_cut task.edge p v es c.args.edges.now c.args.more old mid
    (g.W.Write.contents c.write_finding.new.out) h.1
    (c.args.self.now.judged + length c.args.edges.now)
    c.in_err-write_finding-in-Ok-false-None.field-0.0
    c.in_err-write_finding-in-Ok-false-None.ensures.fault
    (ap (λ a. a.edge) (sym h.0) ∙ c.in-Ok-false-None.is-1) is
    (counted c.args.self.now.judged es c.args.edges.now h.3) none.1
    c.in_err-write_finding-in-Ok-false-None.ensures.front)

pub returns-in-Ok-true-default-clause-takes : goal.returns-in-Ok-true-default-clause-takes
returns-in-Ok-true-default-clause-takes g c = λ task p v es old h.
    let front = front_is p v es c.args.self.now.front c.take.result c.in-Some.front h.4.0
    c.take.ensures.value c.in-Some.is h.4.1 h.4.2 in
    let none = none_of c.args.self.now.asked.edge task.edge (ap (λ a. a.edge) h.0) p v es
    c.args.edges.now c.seek.new.front c.in_ok-edge.field-0
    (c.in_ok-edge.ensures.sought p v es h.3 front) c.in_default-2.is h.2 in (
      h.0,
      h.1,
      none.1,
      counted c.args.self.now.judged es c.args.edges.now h.3,
      (c.seek.new.front, refl, none.0),
    )

pub returns-in-Ok-false-Some-clause-takes : goal.returns-in-Ok-false-Some-clause-takes
returns-in-Ok-false-Some-clause-takes g c = λ task p v es old h.
    let is : c.args.more ≡ Ok false = search rules in
    let mid = g.W.Write.contents c.args.out.now in
    let front = front_is p v es c.args.self.now.front c.take.result c.in-Some.front h.4.0
    c.take.ensures.value c.in-Some.is h.4.1 h.4.2 in
    let none = none_of c.args.self.now.asked.edge task.edge (ap (λ a. a.edge) h.0) p v es
    c.args.edges.now c.seek.new.front c.in_ok-edge.field-0
    (c.in_ok-edge.ensures.sought p v es h.3 front) c.in_default-2.is h.2 in
    writes_end task.edge p v es c.args.edges.now c.args.more old mid mid h.1
    (c.args.self.now.judged + length c.args.edges.now) _
    (ap (λ a. a.edge) (sym h.0) ∙ c.in-Ok-false-Some.is-1) is (Keeps-refl mid)
    (counted c.args.self.now.judged es c.args.edges.now h.3) none.1

pub returns-in_ok-write_finding-in-Ok-false-None-clause-takes :
    goal.returns-in_ok-write_finding-in-Ok-false-None-clause-takes
returns-in_ok-write_finding-in-Ok-false-None-clause-takes g c = λ task p v es old h.
    let is : c.args.more ≡ Ok false = search rules in
    let mid = g.W.Write.contents c.args.out.now in
    let front = front_is p v es c.args.self.now.front c.take.result c.in-Some.front h.4.0
    c.take.ensures.value c.in-Some.is h.4.1 h.4.2 in
    let none = none_of c.args.self.now.asked.edge task.edge (ap (λ a. a.edge) h.0) p v es
    c.args.edges.now c.seek.new.front c.in_ok-edge.field-0
    (c.in_ok-edge.ensures.sought p v es h.3 front) c.in_default-2.is h.2 in
    writes_legal task.edge p v es c.args.edges.now c.args.more old mid
    (g.W.Write.contents c.write_finding.new.out) h.1
    (c.args.self.now.judged + length c.args.edges.now)
    (ap (λ a. a.edge) (sym h.0) ∙ c.in-Ok-false-None.is-1) is
    (counted c.args.self.now.judged es c.args.edges.now h.3) none.1
    c.in_ok-write_finding-in-Ok-false-None.ensures.ok

pub returns-in-Err-default-clause-takes : goal.returns-in-Err-default-clause-takes
returns-in-Err-default-clause-takes g c = λ task p v es old h.
    let mid = g.W.Write.contents c.args.out.now in
    let front = front_is p v es c.args.self.now.front c.take.result c.in-Some.front h.4.0
    c.take.ensures.value c.in-Some.is h.4.1 h.4.2 in
    let none = none_of c.args.self.now.asked.edge task.edge (ap (λ a. a.edge) h.0) p v es
    c.args.edges.now c.seek.new.front c.in_ok-edge.field-0
    (c.in_ok-edge.ensures.sought p v es h.3 front) c.in_default-2.is h.2 in
    writes_stop task.edge p v es c.args.edges.now c.args.more old mid mid h.1
    c.in-Err-default.fault c.in-Err-default.is-0 (Keeps-refl mid) none.1
