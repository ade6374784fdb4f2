use Rattle.std.proofs.Common.{◌∙◌, ◌++◌, ◌∷◌, [], All, IsTrue, ap, arith, is_ok, rules, subst, sym}
use Rattle.vme_model.specs.Signals.{is_well_formed}
use Rattle.vme_races.proofs.ListedEdges.{listed_more, listed_same, pushed_formed}
use Rattle.vme_races.proofs.other.Reordering.keep.Goals as goal

pub returns-then-len-before-clause-kept : goal.returns-then-len-before-clause-kept
returns-then-len-before-clause-kept c = λ p v es are.
    listed_same p v es c.args.edge.now c.args.self.now.racing c.take_in.new.self _
    (c.in_ok-take_in.ensures.line p v es) c.args.self.now.edges.items are (omega arith)

pub returns-in-Ok-clause-kept : goal.returns-in-Ok-clause-kept
returns-in-Ok-clause-kept c = λ p v es are.
    listed_more p v es c.args.edge.now c.args.self.now.racing c.take_in.new.self _
    (c.in_ok-take_in.ensures.line p v es) c.args.self.now.edges.items are _ (λ same. omega arith)
    (c.in-Ok.ensures.items ∙ ap (λ d. c.args.self.now.edges.items ++ d ∷ []) c.of.ensures)

pub invariant_of-self-2 : goal.invariant_of-self-2
invariant_of-self-2 c =
    let formed : All (λ d. IsTrue (is_well_formed d)) c.push.new.self.items =
    pushed_formed (is_ok c.push.result) c.args.self.now.edges.items c.push.new.self.items c.of.result
    c.push.ensures.items c.args.self.now.formed
    (subst (λ d. IsTrue (is_well_formed d)) (sym c.of.ensures) c.requires.formed) in
    search rules
