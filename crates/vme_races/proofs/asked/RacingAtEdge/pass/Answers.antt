use Rattle.std.proofs.Common.{◌≡◌, ◌∙◌, Ok, ap, false, is_ok, subst, sym}
use Rattle.vme_model.specs.Verdict.{State, verdict}
use Rattle.vme_races.specs.Kept.{AreTaken}
use Rattle.vme_races.proofs.AskedLines.{none_by}
use Rattle.vme_races.proofs.asked.RacingAtEdge.pass.Goals as goal

pub returns-clause-accepted : goal.returns-clause-accepted
returns-clause-accepted c = λ p v es taken.
    c.is_some.ensures ∙ c.in_ok-stop.ensures.accepted
    ∙ ap (λ (s : State). is_ok (verdict s c.args.edge.now)) taken.1.bus

pub returns-clause-passes : goal.returns-clause-passes
returns-clause-passes c = λ p v es taken number.
    let next = c.in_ok-stop.ensures.line p v es taken.0 taken.1 number in (next.0, next.1)

pub returns-clause-stays : goal.returns-clause-stays
returns-clause-stays c = λ ends p v es taken.
    let refused : c.is_some.result ≡ false = (let e = ends in cc) in
    let none = none_by c.in_ok-stop.stop (sym c.is_some.ensures ∙ refused) in
    subst (AreTaken p v es)
    (sym (c.take_in.ensures.refused (c.in_ok-stop.was ∙ ap (λ o. Ok o) none))) taken
