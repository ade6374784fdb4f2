use Rattle.vme_shrink_search.proofs.Found.{has_story}
use Rattle.vme_shrink_search.proofs.laws.every_legal_list_has_a_story.Goals as goal

pub returns : goal.returns
returns c = has_story
