use Rattle.std.proofs.Common.{◌≡◌, map, take}
use Rattle.vmebus_c.specs.Conditions.{condition_number}
use Rattle.vmebus_c.proofs.asked.condition_numbers.Given as goal

abbrev pub invariant-loop-condition : goal.invariant-loop-condition
invariant-loop-condition l =
    l.numbers.items ≡ map condition_number (take l.condition-index l.conditions)
