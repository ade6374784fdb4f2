-- No more conditions of a guard fail, or stand in its list, than it has.
use Rattle.std.proofs.Common.{◌≤◌, Bool, true, false, length, arith}
use Rattle.std.proofs.lemmas.List.{length-append}
use Rattle.std.specs.Prelude.{if◌then◌else◌, [], ◌∷◌}
use Rattle.vme_model.specs.declared.conditions.Condition.{Condition}
use Rattle.vme_model.specs.Guards.{Guard, free, asks, ◌⊓◌, unless, conditions, failed}
use Rattle.vme_rules.specs.Room.{most}

one_fails : (c : Condition) (b : Bool) → length (if b then [] else c ∷ []) ≤ 1
one_fails c true = omega arith
one_fails c false = omega arith

pub few_fail : (g : Guard) → length (failed g) ≤ most g
few_fail free = omega arith
few_fail (asks c b) = one_fails c b
few_fail (g ⊓ k) = rw (length-append (failed g) (failed k)) let one = few_fail g in let other = few_fail k in omega (arith, one, other)
few_fail (unless true g) = omega arith
few_fail (unless false g) = few_fail g

pub few_stand : (g : Guard) → length (conditions g) ≤ most g
few_stand free = omega arith
few_stand (asks c b) = omega arith
few_stand (g ⊓ k) = rw (length-append (conditions g) (conditions k)) let one = few_stand g in let other = few_stand k in omega (arith, one, other)
few_stand (unless true g) = omega arith
few_stand (unless false g) = few_stand g
