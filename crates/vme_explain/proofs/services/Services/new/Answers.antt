use Rattle.std.proofs.Common.{refl}
use Rattle.vme_explain.proofs.Fresh.{nothing_served}
use Rattle.vme_explain.proofs.services.Services.new.Goals as goal

pub returns : goal.returns
returns c = λ p. nothing_served p _ refl refl refl refl
