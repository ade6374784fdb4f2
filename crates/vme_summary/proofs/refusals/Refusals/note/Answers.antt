use Rattle.std.proofs.Common.{◌∙◌, ap, Err}
use Rattle.vme_summary.proofs.OneMore.{rule_refused, settling_refused}
use Rattle.vme_summary.proofs.refusals.Refusals.note.Goals as goal

pub returns-in-Rule : goal.returns-in-Rule
returns-in-Rule c = λ t a is refused few. rule_refused c.args.self.now _ a t c.in-Rule.rule is (refused ∙ ap (λ r. Err r) c.in-Rule.is) few
    (ap (λ xs. record c.args.self.now { rules = xs }) c.count.ensures)

pub returns-in-NotSettled : goal.returns-in-NotSettled
returns-in-NotSettled c = λ t a is refused few. settling_refused c.args.self.now _ a t c.in-NotSettled.rule is (refused ∙ ap (λ r. Err r) c.in-NotSettled.is) few
    (ap (λ xs. record c.args.self.now { settlings = xs }) c.count-in-NotSettled.ensures)
