use Rattle.std.proofs.Common.{refl}
use Rattle.vme_reasons.proofs.Fresh.{nothing}
use Rattle.vme_reasons.proofs.marks.Marks.new.Goals as goal

pub returns : goal.returns
returns c = λ p. nothing p _ refl refl refl refl refl refl refl
