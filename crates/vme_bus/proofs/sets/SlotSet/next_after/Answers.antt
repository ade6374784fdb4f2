use Rattle.std.proofs.Common.{◌^◌, ◌<◌, refl, arith}
use Rattle.vme_bus.proofs.Masks.{none_above, next_above}
use Rattle.vme_bus.proofs.sets.SlotSet.next_after.Goals as goal

pub returns-then-above-eq0 : goal.returns-then-above-eq0
returns-then-above-eq0 c =
    none_above c.args.self.bits c.args.slot (omega arith) c.requires c.if-above-eq0.true

pub returns-else-above-eq0 : goal.returns-else-above-eq0
returns-else-above-eq0 c =
    let small : c.args.self.bits < 2 ^ 32 = omega arith in
    let next = next_above c.args.self.bits c.args.slot small c.requires c.if-above-eq0.false _ refl in
    record { above = next.0; near = next.1; held = next.2; least = next.3 }
