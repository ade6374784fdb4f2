use Rattle.vme_captures.proofs.LineLaws.{one_thing}
use Rattle.vme_captures.proofs.laws.line_spells_one_thing.Goals as goal

pub returns : goal.returns
returns c = one_thing
