use Rattle.std.proofs.Common.{◌≡◌, drop, map}
use Rattle.vme_model.specs.Accepted.{first_of, jumper_range}
use Rattle.vme_slots.proofs.ranges.jumpers_range.Given as goal

abbrev pub invariant-loop-jumper : goal.invariant-loop-jumper
invariant-loop-jumper l = first_of (map (jumper_range l.slots) l.jumpers) ≡ first_of (map (jumper_range l.slots) (drop l.jumper-index l.jumpers))
