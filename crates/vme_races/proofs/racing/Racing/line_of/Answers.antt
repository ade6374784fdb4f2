use Rattle.std.proofs.Common.{◌∙◌, ap, is_ok, sym}
use Rattle.vme_model.specs.Numbered.{numbered}
use Rattle.vme_model.specs.Verdict.{verdict}
use Rattle.vme_reading.specs.Outcomes.{bench}
use Rattle.vme_races.proofs.AskedLines.{line_refused, line_walked}
use Rattle.vme_races.proofs.TakenIn.{legal_there}
use Rattle.vme_races.proofs.racing.Racing.line_of.Goals as goal

pub returns-in-Ok : goal.returns-in-Ok
returns-in-Ok c = λ p v es taken number.
    line_walked p v es c.args.edge.now c.args.self.now taken c.args.n number c.walk_line.result.items c.walk.result
    (sym c.verdict.ensures ∙ c.in-Ok.is)
    (c.walk.ensures.walk v p (numbered (bench p v) es) taken.1.last taken.1.passing
    (legal_there p v es c.args.edge.now
    (ap (λ s. is_ok (verdict s c.args.edge.now)) (sym taken.1.bus) ∙ ap is_ok (sym c.verdict.ensures ∙ c.in-Ok.is))))
    c.walk_line.ensures

pub returns-in-Err : goal.returns-in-Err
returns-in-Err c = λ p v es taken number.
    line_refused p v es c.args.edge.now c.args.self.now taken c.args.n number c.refused_line.result.items c.in-Err.refused
    (sym c.verdict.ensures ∙ c.in-Err.is) c.refused_line.ensures
