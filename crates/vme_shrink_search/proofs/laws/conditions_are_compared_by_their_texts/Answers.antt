use Rattle.vme_shrink_search.proofs.Levels.{compared_by_texts}
use Rattle.vme_shrink_search.proofs.laws.conditions_are_compared_by_their_texts.Goals as goal

pub returns : goal.returns
returns c = compared_by_texts
