-- The next slot of the set of boards is the next slot with a board: `BusState::board_above`.
use Rattle.std.proofs.Common.{◌≡◌, ◌∙◌, refl, sym, ℕ, Bool, true, false, ◌<◌, ◌≤◌, Option, Some, None, arith}
use Rattle.std.specs.Prelude.{◌&&◌, find, nat_lt, is_some, MatchOption}
use Rattle.std.specs.Option.{option_map_or}
use Rattle.std.proofs.lemmas.Bool.Decides.{nat_tests}
use Rattle.vme_model.specs.declared.boards.Row.{Row}
use Rattle.vme_model.specs.Plan.{Plan, board, up_to}
use Rattle.vme_model.specs.Accepted.{IsAccepted}
use Rattle.vme_slots.proofs.Slots.{find_up_to_first, find_up_to_none}
use Rattle.vme_histories.proofs.AllowedBoards.{stands}
use Rattle.vme_bus.specs.declared.layouts.Line.TheVariants as line
use Rattle.vme_bus.specs.declared.sets.SlotSet.{SlotSet}
use Rattle.vme_bus.specs.Sets.{has, HoldsNoneAbove, IsNextAbove}
use Rattle.vme_bus.specs.Layouts.{HoldsLine}

some_there : (o : Option Row) → option_map_or (λ (r : Row). true) o false ≡ is_some o
some_there None = refl
some_there (Some r) = refl

row_of : (o : Option Row) → is_some o ≡ true → (r : Row) × (o ≡ Some r)
row_of None e = absurd (cc)
row_of (Some r) e = (r, refl)

both : (a b : Bool) → a ≡ true → b ≡ true → (a && b) ≡ true
both true true e f = refl
both a b e f = absurd (cc)

module _ (p : Plan) (ok : IsAccepted p) (boards : SlotSet) (holds : HoldsLine p line.DataAcknowledge boards) (s : ℕ) where
  abbrev test : ℕ → Bool
  test t = nat_lt s t && is_some (board p t)

  held : (t : ℕ) → has boards t ≡ is_some (board p t)
  held t = holds t ∙ some_there (board p t)

  off : (t : ℕ) → (s < t → has boards t ≡ false) → test t ≡ false
  off t none = by_side (nat_lt s t) refl
    where
      by_side : (b : Bool) → nat_lt s t ≡ b → (b && is_some (board p t)) ≡ false
      by_side false is = refl
      by_side true is = let above : s < t = grind (arith, nat_tests) in sym (held t) ∙ none above

  on : (t : ℕ) → s < t → has boards t ≡ true → test t ≡ true
  on t above some =
      let less : nat_lt s t ≡ true = grind (arith, nat_tests) in
      both (nat_lt s t) (is_some (board p t)) less (sym (held t) ∙ some)

  pub next_found : (o : Option ℕ) → MatchOption o (HoldsNoneAbove boards s) (IsNextAbove boards s) → o ≡ find (λ t. nat_lt s t && is_some (board p t)) (up_to p.slots)
  next_found None none = sym (find_up_to_none test p.slots (λ k from to. off k (none k)))
  next_found (Some n) next =
      let r = row_of (board p n) (sym (held n) ∙ next.held) in
      let k = stands p n r.0 ok r.1 in
      sym (find_up_to_first test p.slots n k.from_one k.to_last (on n next.above next.held) (λ t from before. off t (λ above. next.least t above before)))

-- no board stands above 31
pub none_above : (p : Plan) → IsAccepted p → (s : ℕ) → 32 ≤ s → None ≡ find (λ t. nat_lt s t && is_some (board p t)) (up_to p.slots)
none_above p ok s far = sym (find_up_to_none (λ t. nat_lt s t && is_some (board p t)) p.slots (λ k from to. by_side k (nat_lt s k) refl))
  where
    by_board : (k : ℕ) → s < k → (o : Option Row) → board p k ≡ o → is_some o ≡ false
    by_board k above None is = refl
    by_board k above (Some r) is = let near = (stands p k r ok is).near in absurd (omega arith)

    by_side : (k : ℕ) (b : Bool) → nat_lt s k ≡ b → (b && is_some (board p k)) ≡ false
    by_side k false is = refl
    by_side k true is = let above : s < k = grind (arith, nat_tests) in by_board k above (board p k) refl
