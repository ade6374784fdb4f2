use Rattle.std.proofs.Common.{◌∙◌, ◌++◌, List, ℕ, ap}
use Rattle.vme_model.specs.Sentences.{all_rules}
use Rattle.vme_rulebook.specs.Pages.{list}
use Rattle.vme_rulebook.proofs.pages.all_rules.Goals as goal

pub returns : goal.returns
unfolding all_rules
returns c = c.push_rules.ensures ∙ ap (λ (t : List ℕ). t ++ list) c.new-text.ensures
