use Rattle.std.proofs.Common.{◌≡◌, ◌∙◌, ap, sym, true, false, arith}
use Rattle.vme_model.specs.declared.signals.Driver.TheVariants.{Slot}
use Rattle.vme_model.specs.declared.signals.Wire.TheVariants.{Addr}
use Rattle.vme_model.specs.Plan.{Plan}
use Rattle.vme_model.specs.History.{drive}
use Rattle.vme_slots.proofs.Slots.{up_to_here, find_up_to_none, find_up_to_first}
use Rattle.vme_reasons.proofs.parts.addressing.Goals as goal

pub returns-then-is_low-clause-least : goal.returns-then-is_low-clause-least
returns-then-is_low-clause-least c = λ k at is.
    let b = c.args.bus.now in
    let s = c.loop-slot.slot in
    let slots : c.slots-slot-end.result ≡ b.plan.slots = c.slots-slot-end.ensures ∙ ap (λ (p : Plan). p.slots) c.plan-2.ensures in
    let low : drive b.history (Slot s) Addr ≡ true = cc (c.is_low.ensures b.plan k is, c.if-is_low.true, at) in
    sym (find_up_to_first (λ j. drive b.history (Slot j) Addr) b.plan.slots s (omega arith) (omega arith) low (c.loop-slot.invariant k at is))

pub loop-slot-preserved : goal.loop-slot-preserved
loop-slot-preserved c = λ k at is j from to.
    let b = c.args.bus.now in
    let s = c.loop-slot.slot in
    let high : drive b.history (Slot s) Addr ≡ false = cc (c.is_low.ensures b.plan k is, c.if-is_low.false, at) in
    up_to_here (λ i. drive b.history (Slot i) Addr ≡ false) s (c.loop-slot.invariant k at is) high j from (omega arith)

pub returns-else-is_low-clause-least : goal.returns-else-is_low-clause-least
returns-else-is_low-clause-least c = λ k at is.
    let b = c.args.bus.now in
    let s = c.loop-slot.slot in
    let slots : c.slots-slot-end.result ≡ b.plan.slots = c.slots-slot-end.ensures ∙ ap (λ (p : Plan). p.slots) c.plan-2.ensures in
    let high : drive b.history (Slot s) Addr ≡ false = cc (c.is_low.ensures b.plan k is, c.if-is_low.false, at) in
    sym (find_up_to_none (λ j. drive b.history (Slot j) Addr) b.plan.slots
    (λ j from to. up_to_here (λ i. drive b.history (Slot i) Addr ≡ false) s (c.loop-slot.invariant k at is) high j from (omega arith)))
