-- No slot below is on, and this one is.
use Rattle.std.proofs.Common.{◌≡◌, sym, arith, ℕ, true, reverse}
use Rattle.vme_model.specs.declared.signals.Driver.TheVariants.{Slot}
use Rattle.vme_model.specs.declared.signals.Wire.TheVariants.{Addr}
use Rattle.vme_model.specs.History.{drive}
use Rattle.vme_backplane.proofs.Slots.{find_up_to_first}
use Rattle.vme_backplane.proofs.scans.addressing.Goals as goal

pub returns-then-drive : goal.returns-then-drive
returns-then-drive c =
    let test = λ (s : ℕ). drive (reverse c.args.edges.now) (Slot s) Addr in
    let holds : test c.loop-slot.slot ≡ true = cc in
    sym (find_up_to_first test c.args.plan.now.slots c.loop-slot.slot (omega arith) (omega arith) holds c.loop-slot.invariant)
