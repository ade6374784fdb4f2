-- A search, as far as it has come.
use Rattle.std.proofs.Common.{◌≡◌, ◌∙◌, ℕ, zero, suc, ◌+◌, ◌<◌, Bool, true, false, List, [], ◌∷◌, drop, map, get_or, Option, Some, None, refl, sym, ap, arith, inl, inr, add-one}
use Rattle.std.specs.Prelude.{if◌then◌else◌, find, option_map}
use Rattle.std.specs.List.{flat_map}
use Rattle.std.specs.Option.{option_or}
use Rattle.std.proofs.lemmas.Bool.{cases_lt}
use Rattle.std.proofs.lemmas.List.{drop_more}
use Rattle.std.proofs.lemmas.List.Folds.{find-append}
use Rattle.vme_model.specs.Plan.{up_to}
use Rattle.vme_model.specs.Rules.{bus_numbers}

pub absent : {X : Type 0} (o : Option X) → ((x : X) → o ≡ Some x → ⊥) → o ≡ None
absent None other = refl
absent (Some x) other = absurd (other x refl)

-- the least of the numbers from 1 on
pub none_up_to : (test : ℕ → Bool) (i : ℕ) → find test (up_to i) ≡ None → test (i + 1) ≡ false → find test (up_to (i + 1)) ≡ None
none_up_to test i none fails =
    ap (λ n. find test (up_to n)) (add-one i) ∙ find-append test (up_to i) (suc i ∷ []) ∙ ap (λ o. option_or o (find test (suc i ∷ []))) none
    ∙ ap (λ (b : Bool). if b then Some (suc i) else None) (ap test (sym (add-one i)) ∙ fails)

least_next : (test : ℕ → Bool) (n i : ℕ) → find test (up_to n) ≡ Some (i + 1) → find test (up_to (suc n)) ≡ Some (i + 1)
least_next test n i at = find-append test (up_to n) (suc n ∷ []) ∙ ap (λ o. option_or o (find test (suc n ∷ []))) at

pub least_up_to : (test : ℕ → Bool) (n i : ℕ) → i < n → find test (up_to i) ≡ None → test (i + 1) ≡ true → find test (up_to n) ≡ Some (i + 1)
least_up_to test zero i l none holds = absurd (omega arith)
least_up_to test (suc n) i l none holds =
    elim (cases_lt i n) [
      | inl below ↦ least_next test n i (least_up_to test n i below none holds)
      | inr above ↦
          let same : n ≡ i = omega arith in
          let last : suc n ≡ i + 1 = omega arith in
          find-append test (up_to n) (suc n ∷ []) ∙ ap (λ o. option_or o (find test (suc n ∷ []))) (ap (λ m. find test (up_to m)) same ∙ none)
          ∙ ap (λ m. if test m then Some m else None) last ∙ ap (λ (b : Bool). if b then Some (i + 1) else None) holds
    ]

-- the first of pairs, level by level
find-map : {X Y : Type 0} (test : Y → Bool) (f : X → Y) (xs : List X) → find test (map f xs) ≡ option_map f (find (λ x. test (f x)) xs)
find-map test f [] = refl
find-map test f (x ∷ xs) = first (test (f x)) (find-map test f xs)
  where
    first : (b : Bool) → find test (map f xs) ≡ option_map f (find (λ x. test (f x)) xs) → (if b then Some (f x) else find test (map f xs)) ≡ option_map f (if b then Some x else find (λ x. test (f x)) xs)
    first true e = refl
    first false e = e

number_at : (n : ℕ) → n < 4 → get_or bus_numbers n 0 ≡ n
number_at zero h = refl
number_at (suc zero) h = refl
number_at (suc (suc zero)) h = refl
number_at (suc (suc (suc zero))) h = refl
number_at (suc (suc (suc (suc n)))) h = absurd (omega arith)

pub level_first : {Y : Type 0} (test : Y → Bool) (places : ℕ → List Y) (n : ℕ) → n < 4
    → find test (flat_map places (drop n bus_numbers)) ≡ option_or (find test (places n)) (find test (flat_map places (drop (n + 1) bus_numbers)))
level_first test places n h =
    ap (λ ns. find test (flat_map places ns)) (drop_more bus_numbers n 0 h ∙ ap (λ m. m ∷ drop (n + 1) bus_numbers) (number_at n h))
    ∙ find-append test (places n) (flat_map places (drop (n + 1) bus_numbers))

pub found_on : (test : ℕ × ℕ → Bool) (chain : ℕ → List ℕ) (n s : ℕ) → n < 4 → find (λ t. test (n, t)) (chain n) ≡ Some s
    → find test (flat_map (λ m. map (λ t. (m, t)) (chain m)) (drop n bus_numbers)) ≡ Some (n, s)
found_on test chain n s h at =
    level_first test (λ m. map (λ t. (m, t)) (chain m)) n h
    ∙ ap (λ o. option_or o (find test (flat_map (λ m. map (λ t. (m, t)) (chain m)) (drop (n + 1) bus_numbers)))) (find-map test (λ t. (n, t)) (chain n) ∙ ap (option_map (λ t. (n, t))) at)

pub found_on_later : (test : ℕ × ℕ → Bool) (chain : ℕ → List ℕ) (n : ℕ) → n < 4 → find (λ t. test (n, t)) (chain n) ≡ None
    → find test (flat_map (λ m. map (λ t. (m, t)) (chain m)) (drop n bus_numbers)) ≡ find test (flat_map (λ m. map (λ t. (m, t)) (chain m)) (drop (n + 1) bus_numbers))
found_on_later test chain n h none =
    level_first test (λ m. map (λ t. (m, t)) (chain m)) n h
    ∙ ap (λ o. option_or o (find test (flat_map (λ m. map (λ t. (m, t)) (chain m)) (drop (n + 1) bus_numbers)))) (find-map test (λ t. (n, t)) (chain n) ∙ ap (option_map (λ t. (n, t))) none)
