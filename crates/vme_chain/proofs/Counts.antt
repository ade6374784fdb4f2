-- How a segment that moves changes the count of the low ones.
use Rattle.std.proofs.Common.{◌≡◌, ◌+◌, ◌<◌, ◌≤◌, ◌∙◌, refl, ap, ℕ, Bool, true, false, List, [], ◌∷◌, length, take, arith}
use Rattle.std.specs.Prelude.{◌==◌, not, cond, set, Some, nat_lt}
use Rattle.std.specs.List.{count_by, list_all, slice_get}
use Rattle.std.proofs.Math.Seq.{take-set-lt}
use Rattle.std.proofs.lemmas.List.{length-take}
use Rattle.std.proofs.lemmas.List.Sums.{count_by-le-length, sum_by-set, sum_by-append}
use Rattle.std.proofs.lemmas.Option.{slice_get_within, get_or_from_slice_get}
use Rattle.vme_chain.specs.Segments.{input_number}

abbrev pub lows : List Bool → ℕ
lows xs = count_by (λ is_low. is_low) xs

abbrev one_if : Bool → ℕ
one_if b = cond b 1 0

pub one_more : (xs : List Bool) (k : ℕ) → slice_get xs k ≡ Some false → lows (set xs k true) ≡ lows xs + 1
one_more xs k is =
    let moved = sum_by-set one_if xs k true false (slice_get_within xs k false is) in
    let old = ap one_if (get_or_from_slice_get xs k false false is) in
    omega (arith, moved, old)

pub one_less : (xs : List Bool) (k : ℕ) → slice_get xs k ≡ Some true → lows (set xs k false) + 1 ≡ lows xs
one_less xs k is =
    let moved = sum_by-set one_if xs k false false (slice_get_within xs k true is) in
    let old = ap one_if (get_or_from_slice_get xs k true false is) in
    omega (arith, moved, old)

pub some_low : (xs : List Bool) (k : ℕ) → slice_get xs k ≡ Some true → 1 ≤ lows xs
some_low xs k is = let less = one_less xs k is in omega (arith, less)

cons_lows : (b : Bool) (xs : List Bool) → lows (b ∷ xs) ≡ 0 + one_if b + lows xs
cons_lows b xs = sum_by-append one_if (b ∷ []) xs

not_none : (n : ℕ) → (0 + 1 + n == 0) ≡ false
not_none n = grind arith

none_more : (n : ℕ) → 0 + 0 + n ≡ n
none_more n = omega arith

pub none_low : (xs : List Bool) → (lows xs == 0) ≡ list_all not xs
none_low [] = refl
none_low (true ∷ xs) = ap (λ n. n == 0) (cons_lows true xs) ∙ not_none (lows xs)
none_low (false ∷ xs) = ap (λ n. n == 0) (cons_lows false xs ∙ none_more (lows xs)) ∙ none_low xs

-- there are no more slots below than there are slots
pub at_most : (active : List ℕ) (s : ℕ) → input_number active s ≤ length active
at_most active s = count_by-le-length (λ t. nat_lt t s) active

-- a segment that there is, among the first n
pub within : (xs : List Bool) (n k : ℕ) (b : Bool) → slice_get (take n xs) k ≡ Some b → k < n
within xs n k b is = let short = slice_get_within (take n xs) k b is in omega (arith, short, length-take n xs)

pub moved : (xs : List Bool) (n k : ℕ) (b c : Bool) → slice_get (take n xs) k ≡ Some b → take n (set xs k c) ≡ set (take n xs) k c
moved xs n k b c is = take-set-lt n xs k c (within xs n k b is)
