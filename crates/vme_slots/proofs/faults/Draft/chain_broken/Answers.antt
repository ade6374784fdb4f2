-- The least slot that breaks a chain, with the least chain, or none.
use Rattle.std.proofs.Common.{◌≡◌, ℕ, sym, ap, arith}
use Rattle.std.specs.Prelude.{Some, None, option_map, find}
use Rattle.vme_model.specs.declared.refusals.PlanError.TheVariants.{ChainBroken}
use Rattle.vme_model.specs.Accepted.{chains, is_broken}
use Rattle.vme_slots.proofs.Slots.{up_to_here, first_up_to_none, first_up_to_first}
use Rattle.vme_slots.proofs.faults.Draft.chain_broken.Goals as goal

pub returns-in-Some : goal.returns-in-Some
returns-in-Some c =
    let p = c.args.self.now in
    let s = c.loop-slot.slot in
    let fault = λ (k : ℕ). option_map (λ chain. ChainBroken k chain) (find (is_broken p k) chains) in
    let slots : c.self.inside.slots ≡ p.slots = ap (λ q. q.slots) c.self.view_is in
    let here : find (is_broken p s) chains ≡ Some c.in-Some.chain = cc in
    sym (first_up_to_first fault p.slots s (ChainBroken s c.in-Some.chain) (omega arith) (omega arith) (ap (option_map (λ chain. ChainBroken s chain)) here)
    (λ k low less. ap (option_map (λ chain. ChainBroken k chain)) (c.loop-slot.invariant k low less)))

pub loop-slot-preserved : goal.loop-slot-preserved
loop-slot-preserved c =
    let p = c.args.self.now in
    let s = c.loop-slot.slot in
    let here : find (is_broken p s) chains ≡ None = cc in
    λ k low high. up_to_here (λ j. find (is_broken p j) chains ≡ None) s c.loop-slot.invariant here k low (omega arith)

pub returns-in_default : goal.returns-in_default
returns-in_default c =
    let p = c.args.self.now in
    let s = c.loop-slot.slot in
    let fault = λ (k : ℕ). option_map (λ chain. ChainBroken k chain) (find (is_broken p k) chains) in
    let slots : c.self.inside.slots ≡ p.slots = ap (λ q. q.slots) c.self.view_is in
    let here : find (is_broken p s) chains ≡ None = cc in
    let none = up_to_here (λ j. find (is_broken p j) chains ≡ None) s c.loop-slot.invariant here in
    sym (first_up_to_none fault p.slots (λ k low high. ap (option_map (λ chain. ChainBroken k chain)) (none k low (omega arith))))
