use Rattle.std.proofs.Common.{◌≡◌, ◌∙◌, ◌++◌, ◌∷◌, [], All, IsTrue, None, Ok, ap, is_ok, rules, subst, sym, true}
use Rattle.vme_model.specs.Signals.{is_well_formed}
use Rattle.vme_model.specs.Verdict.{verdict}
use Rattle.vme_races.proofs.ListedEdges.{listed_more, listed_same, pushed_formed}
use Rattle.vme_races.proofs.other.ReorderingAtEdge.pass.Goals as goal

pub returns-then-is_none-clause-passes : goal.returns-then-is_none-clause-passes
returns-then-is_none-clause-passes c = λ p v es are number.
    let none : c.in_ok-stop.stop ≡ None = search rules in
    listed_same p v es c.args.edge.now c.args.self.now.racing c.take_in.new.self _ c.args.n number
    (c.in_ok-stop.ensures.line p v es) c.args.self.now.edges.items are
    (c.take_in.ensures.refused (c.in_ok-stop.was ∙ ap (λ o. Ok o) none))

pub returns-in-Ok-clause-passes : goal.returns-in-Ok-clause-passes
returns-in-Ok-clause-passes c = λ p v es are number.
    let accepted : is_ok (verdict c.args.self.now.racing.bus c.args.edge.now) ≡ true = search rules in
    listed_more p v es c.args.edge.now c.args.self.now.racing c.take_in.new.self _ c.args.n number
    (c.in_ok-stop.ensures.line p v es) c.args.self.now.edges.items are _ accepted
    (c.in-Ok.ensures.items ∙ ap (λ d. c.args.self.now.edges.items ++ d ∷ []) c.of.ensures)

pub invariant_of-self-2 : goal.invariant_of-self-2
invariant_of-self-2 c =
    let formed : All (λ d. IsTrue (is_well_formed d)) c.push.new.self.items =
    pushed_formed (is_ok c.push.result) c.args.self.now.edges.items c.push.new.self.items c.of.result
    c.push.ensures.items c.args.self.now.formed
    (subst (λ d. IsTrue (is_well_formed d)) (sym c.of.ensures) c.requires) in
    search rules
