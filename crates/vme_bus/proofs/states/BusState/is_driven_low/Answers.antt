use Rattle.std.proofs.Common.{◌≡◌, ◌≤◌, ◌<◌, ◌∙◌, refl, sym, ap, arith, Bool, true, false}
use Rattle.std.specs.Prelude.{◌&&◌, nat_lt}
use Rattle.std.proofs.lemmas.Bool.Decides.{nat_tests}
use Rattle.vme_model.specs.declared.signals.Driver.{Driver}
use Rattle.vme_model.specs.declared.signals.Driver.TheVariants.{Slot}
use Rattle.vme_model.specs.History.{drive}
use Rattle.vme_bus.specs.States.{OfHistory}
use Rattle.vme_bus.proofs.OneSlot.{beyond_slots}
use Rattle.vme_bus.proofs.states.BusState.is_driven_low.Goals as goal

pub returns-in-Controller : goal.returns-in-Controller
returns-in-Controller c version p h is =
    c.is_control_low.ensures version p h is ∙ sym (ap (λ (d : Driver). drive h d c.args.wire) c.in-Controller.is)

pub returns-in-Slot : goal.returns-in-Slot
returns-in-Slot c version p h is =
    let s = c.in-Slot.slot in
    by_place (nat_lt s 22) refl c.is_slot_low.result c.is_slot_low.ensures ∙ sym (ap (λ (d : Driver). drive h d c.args.wire) c.in-Slot.is)
  where
    by_place : (b : Bool) → nat_lt c.in-Slot.slot 22 ≡ b → (low : Bool) → (c.in-Slot.slot < 22 → OfHistory c.args.self.now (λ version p h. low ≡ drive h (Slot c.in-Slot.slot) c.args.wire))
        → (b && low) ≡ drive h (Slot c.in-Slot.slot) c.args.wire
    by_place true on low reads = let near : c.in-Slot.slot < 22 = grind (arith, nat_tests) in reads near version p h is
    by_place false off low reads = let far : 22 ≤ c.in-Slot.slot = grind (arith, nat_tests) in beyond_slots version p h c.in-Slot.slot c.args.wire is.accepted is.legal far
