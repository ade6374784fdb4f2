use Rattle.std.proofs.Common.{◌∙◌, ◌+◌, ap, sym}
use Rattle.vme_reading.proofs.SoughtEdges.{passed_accepted, passed_number}
use Rattle.vme_reading.proofs.seeking.Seeking.meets.Goals.{in-Some+else-wanted-n+in_ok-pass-in-Some, in-None+in_ok-is_accepted-in-None+else-not-is_accepted}
use Rattle.vme_reading.proofs.seeking.Seeking.meets.Goals as goal

pub returns-clause-meets : goal.returns-clause-meets
returns-clause-meets g c = λ p v es passed.
    let number = ap (λ n. n + 1) passed.count in elim c.match-self.branch [
      | in-Some+else-wanted-n+in_ok-pass-in-Some w ↦
          rw w.self-is (passed_number g.S.AtEdge.stands c.args.self.now.edge p v es c.args.edge.now
          c.args.self.now.judged c.args.self.now.at passed w.pass.new.self
          (w.in_ok-pass-in-Some.ensures.passes p v es passed.stands number)
          w.in-Some.wanted w.in-Some.is w.if-wanted-n.false)
      | in-None+in_ok-is_accepted-in-None+else-not-is_accepted w ↦
          rw w.self-is (passed_accepted g.S.AtEdge.stands c.args.self.now.edge p v es
          c.args.edge.now c.args.self.now.judged c.args.self.now.at passed w.pass-in-None.new.self
          (w.in_ok-is_accepted-in-None.ensures.passes p v es passed.stands number)
          w.in-None.is
          (sym (w.in_ok-is_accepted-in-None.ensures.accepted p v es passed.stands)
          ∙ w.if-not-is_accepted.false))
    ]
