use Rattle.vme_captures.proofs.LineLaws.{says, spelled}
use Rattle.vme_captures.proofs.laws.line_says_what_it_spells.Goals as goal

pub returns : goal.returns
returns c = λ line e. (says line e, spelled line e)
