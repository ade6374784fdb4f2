use Rattle.std.proofs.Common.{◌++◌, ◌∙◌, Some, ap, append_assoc, codes, decimal, sym}
use Rattle.vme_cycles.specs.Transactions.{showed_text}
use Rattle.vme_cycles.proofs.lines.push_cycle.Goals as goal

pub returns-in-Acknowledge-clause-items : goal.returns-in-Acknowledge-clause-items
returns-in-Acknowledge-clause-items c =
    c.push_byte.ensures.items ∙ ap (λ l. l ++ decimal c.in-Acknowledge.level) c.push.ensures.items
    ∙ append_assoc c.args.line.now.items (codes " acknowledge ") (decimal c.in-Acknowledge.level)
    ∙ ap (λ v. c.args.line.now.items ++ showed_text (Some v)) (sym c.in-Acknowledge.is)
