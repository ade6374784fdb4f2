-- Before any edge.
use Rattle.std.proofs.Common.{◌≡◌, ◌∙◌, refl, sym, ap, ℕ, suc, Bool, true, false, List, [], ◌∷◌, ◌<◌, ◌≤◌, length, take, get_or, add-one, arith}
use Rattle.std.specs.Prelude.{◌+◌, ◌&&◌, ◌||◌, if◌then◌else◌, map, replicate, Option, Some, None, option_map, nat_lt}
use Rattle.std.specs.List.{list_any, slice_get}
use Rattle.std.specs.Option.{option_and_then}
use Rattle.std.proofs.lemmas.Bool.Decides.{nat_tests}
use Rattle.std.proofs.lemmas.Option.{slice_get_past}
use Rattle.vme_model.specs.declared.signals.Version.{Version}
use Rattle.vme_model.specs.declared.signals.Wire.TheVariants.{Bbsy, AddressStrobe, DataStrobe, Dtack}
use Rattle.vme_model.specs.Sets.{bus_levels, irq_levels}
use Rattle.vme_histories.proofs.Addressing.{none_on}
use Rattle.vme_wiring.specs.Boards.{parts_of, place}
use Rattle.vme_wiring.specs.Counts.{pulls, IsLines, no_pulls, high_pins}
use Rattle.vme_wiring.specs.declared.boards.Board.{Board}
use Rattle.vme_histories.proofs.AllowedBoards.{stands}
use Rattle.vme_model.specs.declared.boards.Row.{Row}
use Rattle.vme_model.specs.declared.sets.ChainId.{ChainId}
use Rattle.vme_model.specs.declared.signals.Driver.TheVariants.{Controller, Slot}
use Rattle.vme_model.specs.Plan.{Plan, board, active, requests_on, interrupts_on, drives}
use Rattle.vme_model.specs.Accepted.{IsAccepted}
use Rattle.vme_model.specs.History.{shown, last_value, line, request_line, interrupt_line}
use Rattle.vme_model.specs.Views.{pins}
use Rattle.vme_chain.specs.Segments.{Segments, all_high, segments_of}
use Rattle.vme_chain.proofs.History.{holds_every_slot}

all_false : (xs : List ℕ) → replicate (length xs) false ≡ map (λ s. false) xs
all_false [] = refl
all_false (x ∷ xs) = ap (λ t. false ∷ t) (all_false xs)

high : (xs : List ℕ) → replicate (length xs + 1) false ≡ false ∷ map (λ s. false) xs
high xs = ap (λ n. replicate n false) (add-one (length xs)) ∙ ap (λ t. false ∷ t) (all_false xs)

abbrev with_low : List ℕ → List Bool → Segments
with_low active low = record { active = active; low = low }

pub high_segments : (p : Plan) (c : ChainId) → IsAccepted p → all_high (take 21 (active p c)) ≡ segments_of p [] c
high_segments p c ok = ap all_high (holds_every_slot p c ok) ∙ ap (with_low (active p c)) (high (active p c))

-- every line is high
no_line : (gate : Row → Bool) (rows : List Row) → list_any (λ r. gate r && false) rows ≡ false
no_line gate [] = refl
no_line gate (r ∷ rows) = none (gate r) (list_any (λ q. gate q && false) rows) (no_line gate rows)
  where
    none : (a b : Bool) → b ≡ false → ((a && false) || b) ≡ false
    none true b e = e
    none false b e = e

none_pull : (gate : Row → Bool) (rows : List Row) → 0 ≡ pulls (λ r. gate r && false) rows
none_pull gate [] = refl
none_pull gate (r ∷ rows) = none (gate r) (pulls (λ q. gate q && false) rows) (none_pull gate rows)
  where
    none : (a : Bool) (n : ℕ) → 0 ≡ n → 0 ≡ (if (a && false) then n + 1 else n)
    none true n e = e
    none false n e = e

none_pass : (rows : List Row) → 0 ≡ pulls (λ r. false) rows
none_pass [] = refl
none_pass (r ∷ rows) = none_pass rows

pub high_lines : (p : Plan) → IsLines p [] no_pulls
high_lines p = record {
  br_room = refl;
  irq_room = refl;
  br = λ n low. four n low ∙ none_pull (requests_on n) p.rows;
  irq = λ n low. eight n low ∙ none_pull (interrupts_on n) p.rows;
  bgout = none_pass p.rows;
  bbsy = none_pull (drives Bbsy) p.rows;
  address_strobe = none_pull (drives AddressStrobe) p.rows;
  data_strobe = none_pull (drives DataStrobe) p.rows;
  dtack = none_pull (drives Dtack) p.rows;
}
  where
    four : (n : ℕ) → n < 4 → get_or no_pulls.br n 0 ≡ 0
    four (suc (suc (suc (suc n)))) l = absurd (omega arith)
    four n l = refl

    eight : (n : ℕ) → n < 8 → get_or no_pulls.irq n 0 ≡ 0
    eight (suc (suc (suc (suc (suc (suc (suc (suc n)))))))) l = absurd (omega arith)
    eight n l = refl

bus_alike : (s t : ℕ → Bool) → s 0 ≡ t 0 → s 1 ≡ t 1 → s 2 ≡ t 2 → s 3 ≡ t 3 → bus_levels s ≡ bus_levels t
bus_alike s t a b c d = cc

irq_alike : (s t : ℕ → Bool) → s 1 ≡ t 1 → s 2 ≡ t 2 → s 3 ≡ t 3 → s 4 ≡ t 4 → s 5 ≡ t 5 → s 6 ≡ t 6 → s 7 ≡ t 7 → irq_levels s ≡ irq_levels t
irq_alike s t a b c d e f g = cc

pub high_shared : (p : Plan) → high_pins ≡ pins p [] Controller
high_shared p =
    let a = bus_alike (λ n. false) (request_line p []) (request 0) (request 1) (request 2) (request 3) in
    let b = irq_alike (λ n. false) (interrupt_line p []) (irq 1) (irq 2) (irq 3) (irq 4) (irq 5) (irq 6) (irq 7) in
    let c : None ≡ shown p [] = sym (ap (option_and_then (λ s. last_value [] (Slot s))) (none_on p.slots)) in
    let d : false ≡ line p [] Bbsy = sym (no_line (drives Bbsy) p.rows) in
    let e : false ≡ line p [] AddressStrobe = sym (no_line (drives AddressStrobe) p.rows) in
    let f : false ≡ line p [] DataStrobe = sym (no_line (drives DataStrobe) p.rows) in
    let g : false ≡ line p [] Dtack = sym (no_line (drives Dtack) p.rows) in
    cc (a, b, c, d, e, f, g)
  where
    request : (n : ℕ) → false ≡ request_line p [] n
    request n = sym (no_line (requests_on n) p.rows)

    irq : (n : ℕ) → false ≡ interrupt_line p [] n
    irq n = sym (no_line (interrupts_on n) p.rows)

-- a place beyond the slots has no board
pub boards_in_places : (version : Version) (p : Plan) (boards : List (Option Board)) → IsAccepted p → length boards ≡ 22 →
    ((s : ℕ) → s < 22 → slice_get boards s ≡ Some (option_map (parts_of version p []) (board p s))) →
    (s : ℕ) → place boards s ≡ option_map (parts_of version p []) (board p s)
boards_in_places version p boards ok room at s = by_place (nat_lt s 22) refl
  where
    beyond : 22 ≤ s → (o : Option Row) → board p s ≡ o → o ≡ None
    beyond far None found = refl
    beyond far (Some r) found = let near = (stands p s r ok found).near in absurd (omega arith)

    by_place : (b : Bool) → nat_lt s 22 ≡ b → place boards s ≡ option_map (parts_of version p []) (board p s)
    by_place true is =
        let near : s < 22 = grind (arith, nat_tests) in
        ap (option_and_then (λ b. b)) (at s near)
    by_place false is =
        let far : 22 ≤ s = grind (arith, nat_tests) in
        let past : length boards ≤ s = omega arith in
        ap (option_and_then (λ b. b)) (slice_get_past boards s past) ∙ sym (ap (option_map (parts_of version p [])) (beyond far (board p s) refl))
