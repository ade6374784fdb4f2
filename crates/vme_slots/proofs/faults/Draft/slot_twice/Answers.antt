-- The least slot that is named twice, or none.
use Rattle.std.proofs.Common.{◌≡◌, ℕ, sym, ap, arith, true, false}
use Rattle.std.specs.Prelude.{nat_lt, option_map}
use Rattle.vme_model.specs.declared.refusals.PlanError.TheVariants.{SlotTwice}
use Rattle.vme_model.specs.Accepted.{namings}
use Rattle.vme_slots.proofs.Slots.{up_to_here, find_up_to_none, find_up_to_first}
use Rattle.vme_slots.proofs.faults.Draft.slot_twice.Goals as goal

pub returns-then-is_named_twice : goal.returns-then-is_named_twice
returns-then-is_named_twice c =
    let p = c.args.self.now in
    let s = c.loop-slot.slot in
    let test = λ (k : ℕ). nat_lt 1 (namings p k) in
    let slots : c.self.inside.slots ≡ p.slots = ap (λ q. q.slots) c.self.view_is in
    let holds : test s ≡ true = cc in
    sym (ap (option_map (λ k. SlotTwice k)) (find_up_to_first test p.slots s (omega arith) (omega arith) holds c.loop-slot.invariant))

pub returns-else-is_named_twice : goal.returns-else-is_named_twice
returns-else-is_named_twice c =
    let p = c.args.self.now in
    let s = c.loop-slot.slot in
    let test = λ (k : ℕ). nat_lt 1 (namings p k) in
    let slots : c.self.inside.slots ≡ p.slots = ap (λ q. q.slots) c.self.view_is in
    let fails : test s ≡ false = cc in
    let none = find_up_to_none test p.slots (λ k low high. up_to_here (λ j. test j ≡ false) s c.loop-slot.invariant fails k low (omega arith)) in
    sym (ap (option_map (λ k. SlotTwice k)) none)
