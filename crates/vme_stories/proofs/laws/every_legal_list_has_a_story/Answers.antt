use Rattle.vme_stories.proofs.Found.{has_story}
use Rattle.vme_stories.proofs.laws.every_legal_list_has_a_story.Goals as goal

pub returns : goal.returns
returns c = has_story
