use Rattle.std.proofs.Common.{◌≡◌, ◌∙◌, ◌<◌, ◌≤◌, ◌^◌, ℕ, Bool, true, false, refl, sym, arith}
use Rattle.std.specs.Prelude.{nat_lt}
use Rattle.std.proofs.lemmas.Bool.Decides.{nat_tests}
use Rattle.vme_bus.proofs.Masks.{beyond}
use Rattle.vme_bus.specs.declared.sets.SlotSet.{SlotSet}
use Rattle.vme_bus.specs.Sets.{has}
use Rattle.vme_standings.proofs.bits.row_holds_bits.Goals as goal

within : (row : SlotSet) (t : ℕ) → row.bits < 2 ^ 32 → has row t ≡ true → (b : Bool) → nat_lt t 32 ≡ b → t < 32
within row t small h true e = grind (arith, nat_tests)
within row t small h false e =
    let far : 32 ≤ t = grind (arith, nat_tests) in
    let clash = sym h ∙ beyond row.bits t small far in
    absurd (cc)

pub returns : goal.returns
returns c t h =
    let small : c.args.row.bits < 2 ^ 32 = omega arith in
    within c.args.row t small h (nat_lt t 32) refl
