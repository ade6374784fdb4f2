-- What a plan says of each slot and line: `fed_by`, `Layout::new`.
use Rattle.std.proofs.Common.{◌≡◌, ◌∙◌, refl, sym, ap, ℕ, zero, suc, Bool, true, false, List, [], ◌∷◌, ◌<◌, ◌≤◌, length, get_or, arith}
use Rattle.std.specs.Prelude.{◌&&◌, Option, Some, None, option_map, nat_lt}
use Rattle.std.specs.Option.{option_and_then, option_map_or}
use Rattle.std.proofs.lemmas.Bool.Decides.{nat_tests}
use Rattle.std.proofs.lemmas.Option.{slice_get_past, slice_get-get_or}
use Rattle.vme_model.specs.declared.boards.Row.{Row}
use Rattle.vme_model.specs.Plan.{Plan, board}
use Rattle.vme_model.specs.Accepted.{IsAccepted}
use Rattle.vme_histories.proofs.AllowedBoards.{stands}
use Rattle.vme_bus.specs.declared.records.SeatRecord.{SeatRecord}
use Rattle.vme_bus.specs.declared.sets.SlotSet.{SlotSet}
use Rattle.vme_bus.specs.declared.records.Seat.{Seat}
use Rattle.vme_bus.specs.Records.{seat_in, no_seat}
use Rattle.vme_bus.specs.Layouts.{seat, seat_of, set_at}

-- a place beyond the slots has no board
pub seats_in_places : (p : Plan) (seats : List SeatRecord) → IsAccepted p → length seats ≡ 22 → ((s : ℕ) → s < 22 → seat_in (get_or seats s no_seat) ≡ option_map (seat_of p) (board p s)) →
    (s : ℕ) → seat seats s ≡ option_map (seat_of p) (board p s)
seats_in_places p seats ok room at s = by_place (nat_lt s 22) refl
  where
    beyond : 22 ≤ s → (o : Option Row) → board p s ≡ o → o ≡ None
    beyond far None found = refl
    beyond far (Some r) found = let near = (stands p s r ok found).near in absurd (omega arith)

    by_place : (b : Bool) → nat_lt s 22 ≡ b → seat seats s ≡ option_map (seat_of p) (board p s)
    by_place true is =
        let near : s < 22 = grind (arith, nat_tests) in
        let here : s < length seats = omega arith in
        ap (option_and_then seat_in) (slice_get-get_or seats s no_seat here) ∙ at s near
    by_place false is =
        let far : 22 ≤ s = grind (arith, nat_tests) in
        let past : length seats ≤ s = omega arith in
        ap (option_and_then seat_in) (slice_get_past seats s past) ∙ sym (ap (option_map (seat_of p)) (beyond far (board p s) refl))

-- nor a record, so that a test of the seats below the last is the test
pub all_seats : (seats : List SeatRecord) (f : Seat → Bool) → length seats ≡ 22 → (s : ℕ) → (nat_lt s 22 && option_map_or f (seat seats s) false) ≡ option_map_or f (seat seats s) false
all_seats seats f room s = by_place (nat_lt s 22) refl
  where
    by_place : (b : Bool) → nat_lt s 22 ≡ b → (b && option_map_or f (seat seats s) false) ≡ option_map_or f (seat seats s) false
    by_place true is = refl
    by_place false is =
        let far : 22 ≤ s = grind (arith, nat_tests) in
        let past : length seats ≤ s = omega arith in
        sym (ap (λ o. option_map_or f (option_and_then seat_in o) false) (slice_get_past seats s past))

-- a fact of each place of four and of eight
pub each_of_four : (P : ℕ → SlotSet → Type 0) (a b c d : SlotSet) → P 0 a → P 1 b → P 2 c → P 3 d → (n : ℕ) → n < 4 → P n (set_at (a ∷ b ∷ c ∷ d ∷ []) n)
each_of_four P a b c d fa fb fc fd zero l = fa
each_of_four P a b c d fa fb fc fd (suc zero) l = fb
each_of_four P a b c d fa fb fc fd (suc (suc zero)) l = fc
each_of_four P a b c d fa fb fc fd (suc (suc (suc zero))) l = fd
each_of_four P a b c d fa fb fc fd (suc (suc (suc (suc n)))) l = absurd (omega arith)

pub each_of_eight : (P : ℕ → SlotSet → Type 0) (a b c d e f g h : SlotSet) → P 0 a → P 1 b → P 2 c → P 3 d → P 4 e → P 5 f → P 6 g → P 7 h → (n : ℕ) → n < 8
    → P n (set_at (a ∷ b ∷ c ∷ d ∷ e ∷ f ∷ g ∷ h ∷ []) n)
each_of_eight P a b c d e f g h fa fb fc fd fe ff fg fh zero l = fa
each_of_eight P a b c d e f g h fa fb fc fd fe ff fg fh (suc zero) l = fb
each_of_eight P a b c d e f g h fa fb fc fd fe ff fg fh (suc (suc zero)) l = fc
each_of_eight P a b c d e f g h fa fb fc fd fe ff fg fh (suc (suc (suc zero))) l = fd
each_of_eight P a b c d e f g h fa fb fc fd fe ff fg fh (suc (suc (suc (suc zero)))) l = fe
each_of_eight P a b c d e f g h fa fb fc fd fe ff fg fh (suc (suc (suc (suc (suc zero))))) l = ff
each_of_eight P a b c d e f g h fa fb fc fd fe ff fg fh (suc (suc (suc (suc (suc (suc zero)))))) l = fg
each_of_eight P a b c d e f g h fa fb fc fd fe ff fg fh (suc (suc (suc (suc (suc (suc (suc zero))))))) l = fh
each_of_eight P a b c d e f g h fa fb fc fd fe ff fg fh (suc (suc (suc (suc (suc (suc (suc (suc n)))))))) l = absurd (omega arith)
