use Rattle.std.proofs.Common.{◌∙◌, ◌≤◌, sym, subst, List, length}
use Rattle.vme_model.specs.declared.signals.Edge.{Edge}
use Rattle.vme_wiring.proofs.Offering.{all_considered, at_most_ten}
use Rattle.vme_wiring.proofs.wirings.Wiring.all_considered.Goals as goal

pub returns-clause-edges : goal.returns-clause-edges
returns-clause-edges c version p h is = c.collected.ensures ∙ all_considered version p h c.args.self.now is c.args.driver

pub returns-clause-few : goal.returns-clause-few
returns-clause-few c =
    let P : List Edge → Type 0 = λ es. length es ≤ 10 in
    subst P (sym c.collected.ensures) (at_most_ten c.args.self.now c.args.driver)
