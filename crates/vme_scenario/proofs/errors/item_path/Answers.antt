use Rattle.std.proofs.Common.{rules, append_assoc}
use Rattle.vme_scenario.proofs.errors.item_path.Goals as goal

pub returns : goal.returns
returns c = search (rules, append_assoc)
