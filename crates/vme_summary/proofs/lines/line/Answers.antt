use Rattle.std.proofs.Common.{◌∙◌, ap, get_or, codes}
use Rattle.vme_goals.specs.Events.{event_index}
use Rattle.vme_summary.specs.Tally.{passed_by, times_met}
use Rattle.vme_summary.specs.Summary.{never_text}
use Rattle.vme_summary.proofs.Words.{same_events, same_rules}
use Rattle.vme_summary.proofs.lines.line.Goals as goal

pub returns-in-NeverAccepted : goal.returns-in-NeverAccepted
returns-in-NeverAccepted c = λ t is.
    rw c.in-NeverAccepted.is (c.never_line.ensures ∙ ap (never_text (codes "never accepted"))
    (c.rule_words.ensures.words ∙ same_rules (λ k. get_or c.args.tally.now.passed k 0) (λ k. passed_by k t) is.passed))

pub returns-in-NeverMet : goal.returns-in-NeverMet
returns-in-NeverMet c = λ t is.
    rw c.in-NeverMet.is (c.never_line-in-NeverMet.ensures ∙ ap (never_text (codes "never met"))
    (c.event_words.ensures.words ∙ same_events (λ v. get_or c.args.tally.now.met.times (event_index v) 0) (λ v. times_met v t) is.met.times))
