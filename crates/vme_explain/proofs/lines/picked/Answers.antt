use Rattle.std.proofs.Common.{ap, Option, ℕ}
use Rattle.vme_model.specs.declared.witnesses.Witness.TheVariants as witness
use Rattle.vme_explain.proofs.lines.picked.Goals as goal

pub returns : goal.returns
returns c = ap (λ (x : Option ℕ). witness.Picks x) c.level_picked.ensures
