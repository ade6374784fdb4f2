use Rattle.std.proofs.Common.{reverse}
use Rattle.vme_model.proofs.Safety.{legal_is_safe}
use Rattle.vme_shrink_search.proofs.laws.stories_are_safe.Goals as goal

pub returns-clause-legal : goal.returns-clause-legal
returns-clause-legal c = λ b h e g story. story.legal

pub returns-clause-safe : goal.returns-clause-safe
returns-clause-safe c = λ b h e g fit story.
    legal_is_safe b.version b.plan (reverse g) fit story.legal
