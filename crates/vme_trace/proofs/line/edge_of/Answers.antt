use Rattle.std.proofs.Common.{rules, sym, ◌∙◌}
use Rattle.vme_trace.proofs.Guesses.{no_guess, right_guess, not_formed, not_spelled}
use Rattle.vme_trace.proofs.line.edge_of.Goals as goal

pub returns-in_default : goal.returns-in_default
returns-in_default c = sym (no_guess c.args.line.now (sym c.guess.ensures ∙ c.in_default.is))

pub returns-then-not-is_well_formed : goal.returns-then-not-is_well_formed
returns-then-not-is_well_formed c = sym (not_formed c.args.line.now _ (sym c.guess.ensures ∙ c.in-Some.is) (search rules))

pub returns-then-spells : goal.returns-then-spells
returns-then-spells c = sym (right_guess c.args.line.now _ (search rules) (sym c.spells.ensures ∙ c.if-spells.true))

pub returns-else-spells : goal.returns-else-spells
returns-else-spells c = sym (not_spelled c.args.line.now _ (sym c.guess.ensures ∙ c.in-Some.is) (sym c.spells.ensures ∙ c.if-spells.false))
