-- No board stands beyond the last slot: `slots_on`.
use Rattle.std.proofs.Common.{◌≡◌, refl, ℕ, Bool, true, false, ◌≤◌, arith}
use Rattle.std.specs.Prelude.{◌&&◌, Option, Some, None, nat_lt}
use Rattle.std.specs.Option.{option_map_or}
use Rattle.std.proofs.lemmas.Bool.Decides.{nat_tests}
use Rattle.vme_model.specs.declared.boards.Row.{Row}
use Rattle.vme_model.specs.Plan.{Plan, board}
use Rattle.vme_model.specs.Accepted.{IsAccepted}
use Rattle.vme_histories.proofs.AllowedBoards.{stands}

pub none_beyond : (p : Plan) → IsAccepted p → (s : ℕ) → 22 ≤ s → (f : Row → Bool) → option_map_or f (board p s) false ≡ false
none_beyond p ok s far f = by_board (board p s) refl
  where
    by_board : (o : Option Row) → board p s ≡ o → option_map_or f o false ≡ false
    by_board None is = refl
    by_board (Some r) is = let near = (stands p s r ok is).near in absurd (omega arith)

-- a test below the last slot is the test
pub all_below : (p : Plan) → IsAccepted p → (s : ℕ) (f : Row → Bool) → (nat_lt s 22 && option_map_or f (board p s) false) ≡ option_map_or f (board p s) false
all_below p ok s f = by_place (nat_lt s 22) refl
  where
    by_place : (b : Bool) → nat_lt s 22 ≡ b → (b && option_map_or f (board p s) false) ≡ option_map_or f (board p s) false
    by_place true is = refl
    by_place false is = let far : 22 ≤ s = grind (arith, nat_tests) in let none = none_beyond p ok s far f in cc
