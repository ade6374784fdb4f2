use Rattle.std.proofs.Common.{◌<◌, false, sym, subst}
use Rattle.vmebus_c.proofs.NoneOpen.{some_weight}
use Rattle.vmebus_c.proofs.exports.vmebus_seed_sized.Goals as goal

pub returns-clause-made : goal.returns-clause-made
returns-clause-made c is = λ k. c.new.ensures.made (λ s. false) k

pub returns-clause-weighed : goal.returns-clause-weighed
returns-clause-weighed c is = λ k. subst (λ n. 0 < n) (sym (c.new.ensures.weights k)) (some_weight _)
