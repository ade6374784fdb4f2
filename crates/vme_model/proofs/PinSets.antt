-- What the sets on a board's pins hold: exactly the levels whose lines are low.
use Rattle.std.proofs.Common.{◌≡◌, refl, ap, ℕ, zero, suc, ◌<◌, ◌≤◌, Bool, true, false, List, [], ◌∷◌, arith}
use Rattle.std.specs.Prelude.{◌&&◌, not, if◌then◌else◌, find}
use Rattle.std.specs.List.{list_all}
use Rattle.vme_model.specs.Sets.{has_level, has_bus_level, irq_levels, bus_levels}
use Rattle.vme_model.specs.Accepted.{irq_numbers}
use Rattle.vme_model.specs.declared.boards.ArbiterKind.{ArbiterKind}
use Rattle.vme_model.specs.declared.sets.Levels.{Levels}
use Rattle.vme_model.specs.Rules.{bus_numbers, pick}
use Rattle.vme_model.specs.Offers.{irq_descending}
use Rattle.vme_model.proofs.Bools.{and_left, and_right}
use Rattle.vme_model.proofs.Picks.{on_both, at_one, at_four, agreed, pick_by_lines}

abbrev lines : Bool → Bool → Bool → Bool → Bool → Bool → Bool → ℕ → Bool
lines a b c d e f g zero = false
lines a b c d e f g (suc zero) = a
lines a b c d e f g (suc (suc zero)) = b
lines a b c d e f g (suc (suc (suc zero))) = c
lines a b c d e f g (suc (suc (suc (suc zero)))) = d
lines a b c d e f g (suc (suc (suc (suc (suc zero))))) = e
lines a b c d e f g (suc (suc (suc (suc (suc (suc zero)))))) = f
lines a b c d e f g (suc (suc (suc (suc (suc (suc (suc _))))))) = g

abbrev same : (ℕ → Bool) → (ℕ → Bool) → List ℕ → Bool
same s t ns = list_all (λ n. if t n then s n else not (s n)) ns

abbrev irq_same : Bool → Bool → Bool → Bool → Bool → Bool → Bool → Bool
irq_same a b c d e f g = same (has_level (irq_levels (lines a b c d e f g))) (lines a b c d e f g) irq_numbers

irq_all : (a b c d e f g : Bool) → irq_same a b c d e f g ≡ true
irq_all a b c d e f g =
    at_one (λ g. irq_same a b c d e f g)
    (at_one (λ f. on_both (λ g. irq_same a b c d e f g))
    (at_one (λ e. on_both (λ f. on_both (λ g. irq_same a b c d e f g)))
    (at_one (λ d. on_both (λ e. on_both (λ f. on_both (λ g. irq_same a b c d e f g))))
    (at_one (λ c. on_both (λ d. on_both (λ e. on_both (λ f. on_both (λ g. irq_same a b c d e f g)))))
    (at_one (λ b. on_both (λ c. on_both (λ d. on_both (λ e. on_both (λ f. on_both (λ g. irq_same a b c d e f g))))))
    (at_one (λ a. on_both (λ b. on_both (λ c. on_both (λ d. on_both (λ e. on_both (λ f. on_both (λ g. irq_same a b c d e f g))))))) refl a) b) c) d) e) f) g

abbrev at_place : (ℕ → Bool) → (ℕ → Bool) → ℕ → Bool
at_place s t n = if t n then s n else not (s n)

pick_irq : (s t : ℕ → Bool) (n : ℕ) → 1 ≤ n → n ≤ 7 → same s t irq_numbers ≡ true → s n ≡ t n
pick_irq s t zero l h e = absurd (omega arith)
pick_irq s t (suc zero) l h e = agreed (s 1) (t 1) (and_left _ _ e)
pick_irq s t (suc (suc zero)) l h e = agreed (s 2) (t 2) (and_left _ _ (and_right (at_place s t 1) _ e))
pick_irq s t (suc (suc (suc zero))) l h e = agreed (s 3) (t 3) (and_left _ _ (and_right (at_place s t 2) _ (and_right (at_place s t 1) _ e)))
pick_irq s t (suc (suc (suc (suc zero)))) l h e = agreed (s 4) (t 4) (and_left _ _ (and_right (at_place s t 3) _ (and_right (at_place s t 2) _ (and_right (at_place s t 1) _ e))))
pick_irq s t (suc (suc (suc (suc (suc zero))))) l h e =
    agreed (s 5) (t 5) (and_left _ _ (and_right (at_place s t 4) _ (and_right (at_place s t 3) _ (and_right (at_place s t 2) _ (and_right (at_place s t 1) _ e)))))
pick_irq s t (suc (suc (suc (suc (suc (suc zero)))))) l h e =
    agreed (s 6) (t 6) (and_left _ _ (and_right (at_place s t 5) _ (and_right (at_place s t 4) _ (and_right (at_place s t 3) _ (and_right (at_place s t 2) _ (and_right (at_place s t 1) _ e))))))
pick_irq s t (suc (suc (suc (suc (suc (suc (suc zero))))))) l h e =
    agreed (s 7) (t 7)
    (and_left _ _
    (and_right (at_place s t 6) _ (and_right (at_place s t 5) _ (and_right (at_place s t 4) _ (and_right (at_place s t 3) _ (and_right (at_place s t 2) _ (and_right (at_place s t 1) _ e)))))))
pick_irq s t (suc (suc (suc (suc (suc (suc (suc (suc n)))))))) l h e = absurd (omega arith)

pub has_irq : (low : ℕ → Bool) (n : ℕ) → 1 ≤ n → n ≤ 7 → has_level (irq_levels low) n ≡ low n
has_irq low n l h =
    pick_irq (has_level (irq_levels low)) low n l h (irq_all (low 1) (low 2) (low 3) (low 4) (low 5) (low 6) (low 7))

abbrev bus_lines : Bool → Bool → Bool → Bool → ℕ → Bool
bus_lines a b c d zero = a
bus_lines a b c d (suc zero) = b
bus_lines a b c d (suc (suc zero)) = c
bus_lines a b c d (suc (suc (suc _))) = d

abbrev bus_same : Bool → Bool → Bool → Bool → Bool
bus_same a b c d = same (has_bus_level (bus_levels (bus_lines a b c d))) (bus_lines a b c d) bus_numbers

bus_all : (a b c d : Bool) → bus_same a b c d ≡ true
bus_all a b c d =
    at_one (λ d. bus_same a b c d)
    (at_one (λ c. on_both (λ d. bus_same a b c d))
    (at_one (λ b. on_both (λ c. on_both (λ d. bus_same a b c d)))
    (at_one (λ a. on_both (λ b. on_both (λ c. on_both (λ d. bus_same a b c d)))) refl a) b) c) d

pick_bus : (s t : ℕ → Bool) (n : ℕ) → n < 4 → same s t bus_numbers ≡ true → s n ≡ t n
pick_bus s t n l e = agreed (s n) (t n) (at_four (at_place s t) n l e)

pub has_bus : (low : ℕ → Bool) (n : ℕ) → n < 4 → has_bus_level (bus_levels low) n ≡ low n
has_bus low n l = pick_bus (has_bus_level (bus_levels low)) low n l (bus_all (low 0) (low 1) (low 2) (low 3))

-- the search of a list goes on alike if the test is the same at its head
find_cons : {A : Type 0} (s t : A → Bool) (x : A) (xs : List A) → s x ≡ t x → find s xs ≡ find t xs → find s (x ∷ xs) ≡ find t (x ∷ xs)
find_cons {A} s t x xs e f = cc

-- a handler wants the same level by the pins as by the lines
pub wanted_of_pins : (handled : Levels) (low : ℕ → Bool) → find (λ v. has_level handled v && has_level (irq_levels low) v) irq_descending ≡ find (λ v. has_level handled v && low v) irq_descending
wanted_of_pins handled low =
    let s = λ (v : ℕ). has_level handled v && has_level (irq_levels low) v in
    let t = λ (v : ℕ). has_level handled v && low v in
    let at : (v : ℕ) → 1 ≤ v → v ≤ 7 → s v ≡ t v = λ v l h. ap (λ x. has_level handled v && x) (has_irq low v l h) in
    find_cons s t 7 (6 ∷ 5 ∷ 4 ∷ 3 ∷ 2 ∷ 1 ∷ []) (at 7 (omega arith) (omega arith))
    (find_cons s t 6 (5 ∷ 4 ∷ 3 ∷ 2 ∷ 1 ∷ []) (at 6 (omega arith) (omega arith))
    (find_cons s t 5 (4 ∷ 3 ∷ 2 ∷ 1 ∷ []) (at 5 (omega arith) (omega arith))
    (find_cons s t 4 (3 ∷ 2 ∷ 1 ∷ []) (at 4 (omega arith) (omega arith))
    (find_cons s t 3 (2 ∷ 1 ∷ []) (at 3 (omega arith) (omega arith))
    (find_cons s t 2 (1 ∷ []) (at 2 (omega arith) (omega arith))
    (find_cons s t 1 [] (at 1 (omega arith) (omega arith)) refl))))))

-- a policy picks the same level by the pins as by the lines
pub pick_of_pins : (kind : ArbiterKind) (low : ℕ → Bool) (last : ℕ) → pick kind (has_bus_level (bus_levels low)) last ≡ pick kind low last
pick_of_pins kind low last =
    pick_by_lines kind (has_bus_level (bus_levels low)) low last (has_bus low 0 (omega arith)) (has_bus low 1 (omega arith)) (has_bus low 2 (omega arith)) (has_bus low 3 (omega arith))
