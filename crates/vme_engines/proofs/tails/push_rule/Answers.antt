use Rattle.std.proofs.Common.{◌≡◌, ◌∙◌, ap, ◌++◌, take, get_or, []}
use Rattle.std.proofs.lemmas.Bool.{cond_below, cond_above}
use Rattle.vme_engines.specs.declared.tails.TheConstants.{RULES}
use Rattle.vme_engines.proofs.VerdictEnds.{size, row_is_end}
use Rattle.vme_engines.proofs.tails.push_rule.Goals as goal
use Rattle.vme_engines.proofs.tails.push_rule.Goals.{then-rule-lt10, else-rule-lt10}

pub returns : goal.returns
returns c =
    let size_is : c.if-rule-lt10.len ≡ size c.args.rule =
    elim c.if-rule-lt10.branch [
      | then-rule-lt10 w ↦ w.len-is ∙ cond_below c.args.rule 10 7 8 w.if-rule-lt10.true
      | else-rule-lt10 w ↦ cond_above c.args.rule 10 7 8 c.if-rule-lt10.len w.if-rule-lt10.false w.len-is
    ] in
    c.push_tail.ensures ∙ ap (λ k. c.args.text.now ++ take c.if-rule-lt10.len (get_or RULES k [])) c.from.ensures
    ∙ ap (λ n. c.args.text.now ++ take n (get_or RULES c.args.rule [])) size_is ∙ ap (λ l. c.args.text.now ++ l) (row_is_end c.args.rule c.requires.known)
