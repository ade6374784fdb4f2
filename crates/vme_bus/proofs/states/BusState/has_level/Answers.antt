use Rattle.std.proofs.Common.{◌≡◌, ◌≤◌, ◌<◌, ◌∙◌, refl, ap, arith, ℕ, Bool, true, false}
use Rattle.std.proofs.lemmas.Bool.Decides.{nat_tests}
use Rattle.std.specs.Prelude.{◌==◌, ◌&&◌, min, nat_lt, Option, Some, None}
use Rattle.std.specs.Option.{option_and_then, option_map_or}
use Rattle.vme_model.specs.declared.boards.Row.{Row}
use Rattle.vme_model.specs.declared.boards.InterrupterRow.{InterrupterRow}
use Rattle.vme_model.specs.Plan.{board, interrupts_on}
use Rattle.vme_histories.proofs.AllowedBoards.{stands}
use Rattle.vme_bus.specs.Sets.{has}
use Rattle.vme_bus.specs.Layouts.{set_at}
use Rattle.vme_bus.proofs.states.BusState.has_level.Goals as goal

differs : (a n : ℕ) → a < 8 → 8 ≤ n → false ≡ (a == n)
differs a n l f = grind (arith, nat_tests)

near_is : (n : ℕ) → nat_lt n 8 ≡ true → n < 8
near_is n e = grind (arith, nat_tests)

far_is : (n : ℕ) → nat_lt n 8 ≡ false → 8 ≤ n
far_is n e = grind (arith, nat_tests)

beyond : (n : ℕ) (o : Option InterrupterRow) → option_map_or (λ (i : InterrupterRow). i.level) o 0 < 8 → 8 ≤ n → false ≡ option_map_or (λ (i : InterrupterRow). i.level == n) o false
beyond n None l f = refl
beyond n (Some i) l f = differs i.level n l f

on : (n : ℕ) (o : Option Row) → option_map_or (interrupts_on n) o false ≡ option_map_or (λ (i : InterrupterRow). i.level == n) (option_and_then (λ (r : Row). r.interrupter) o) false
on n None = refl
on n (Some r) = refl

pub returns : goal.returns
returns c version p h is = by_level (nat_lt c.args.level 8) refl
  where
    by_board : 8 ≤ c.args.level → (o : Option Row) → board p c.args.slot ≡ o → false ≡ option_map_or (λ (i : InterrupterRow). i.level == c.args.level)
        (option_and_then (λ (r : Row). r.interrupter) o) false
    by_board f None found = refl
    by_board f (Some r) found = beyond c.args.level r.interrupter (stands p c.args.slot r is.accepted found).interrupt f

    by_level : (b : Bool) → nat_lt c.args.level 8 ≡ b → (b && c.has.result) ≡ option_map_or (λ (i : InterrupterRow). i.level == c.args.level)
        (option_and_then (λ (r : Row). r.interrupter) (board p c.args.slot)) false
    by_level true e =
        let l : c.args.level < 8 = near_is c.args.level e in
        let least : min c.args.level 7 ≡ c.args.level = grind arith in
        c.has.ensures
        ∙ ap (λ k. has (set_at c.args.self.now.layout.interrupts k) c.args.slot) (c.from.ensures ∙ c.min.ensures ∙ least)
        ∙ is.layout.interrupts c.args.level l c.args.slot
        ∙ on c.args.level (board p c.args.slot)
    by_level false e = by_board (far_is c.args.level e) (board p c.args.slot) refl
