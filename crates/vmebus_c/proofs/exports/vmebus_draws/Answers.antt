use Rattle.std.proofs.Common.{◌<◌, false, sym, subst}
use Rattle.vmebus_c.proofs.NoneOpen.{some_weight}
use Rattle.vmebus_c.proofs.exports.vmebus_draws.Goals as goal

pub returns-clause-made : goal.returns-clause-made
returns-clause-made c = λ k. c.new.ensures.made (λ s. false) k

pub returns-clause-weighed : goal.returns-clause-weighed
returns-clause-weighed c = λ k. subst (λ n. 0 < n) (sym (c.new.ensures.weights k)) (some_weight _)
