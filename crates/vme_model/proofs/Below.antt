-- The numbers up to n that pass a test: the part below a bound, and the greatest below it.
use Rattle.std.proofs.Common.{◌≡◌, ℕ, zero, suc, ◌<◌, ◌≤◌, Bool, true, false, List, [], ◌∷◌, ◌++◌, Option, Some, None, refl, sym, ap, ◌∙◌, subst, arith, cond, ⊎_elim}
use Rattle.std.specs.Prelude.{◌&&◌, nat_lt, if◌then◌else◌, filter, reverse, find}
use Rattle.std.specs.List.{Contains}
use Rattle.std.proofs.lemmas.Bool.{cases_lt}
use Rattle.std.proofs.lemmas.Bool.Decides.{nat_tests}
use Rattle.std.proofs.lemmas.List.{reverse-append}
use Rattle.std.proofs.lemmas.List.Elements.{filter-append, filter_passes, All-contains, Contains-append_left, Contains-append_right}
use Rattle.vme_model.specs.Plan.{up_to}

-- the numbers below k, from n down to 1, that pass
abbrev pub low_part : (ℕ → Bool) → ℕ → ℕ → List ℕ
low_part test k zero = []
low_part test k (suc n) = if test (suc n) && nat_lt (suc n) k then suc n ∷ low_part test k n else low_part test k n

pub less : (a b : ℕ) → a < b → nat_lt a b ≡ true
less a b l = grind (arith, nat_tests)

pub not_less : (a b : ℕ) → b ≤ a → nat_lt a b ≡ false
not_less a b l = grind (arith, nat_tests)

pub same_less : (a s t : ℕ) → (a < s → a < t) → (a < t → a < s) → nat_lt a s ≡ nat_lt a t
same_less a s t f g = grind (arith, nat_tests, f, g)

-- two bounds that have the same numbers below them
pub same_part : (test : ℕ → Bool) (a b n : ℕ) → ((t : ℕ) → test t ≡ true → t ≤ n → nat_lt t a ≡ nat_lt t b) → low_part test a n ≡ low_part test b n
same_part test a b zero h = refl
same_part test a b (suc n) h = same_head (test (suc n)) refl (same_part test a b n (λ t e l. h t e (omega arith)))
  where
    same_head : (x : Bool) → test (suc n) ≡ x → low_part test a n ≡ low_part test b n → (if x && nat_lt (suc n) a then suc n ∷ low_part test a n else low_part test a n)
        ≡ (if x && nat_lt (suc n) b then suc n ∷ low_part test b n else low_part test b n)
    same_head true e rest = cc (h (suc n) e (omega arith), rest)
    same_head false e rest = rest

-- one more number below the bound
pub more_part : (test : ℕ → Bool) (hi s n : ℕ) → test s ≡ true → 1 ≤ s → s ≤ n → hi ≤ s → ((t : ℕ) → test t ≡ true → t < s → t < hi) → low_part test (suc s) n ≡ s ∷ low_part test hi n
more_part test hi s zero e from to above gap = absurd (omega arith)
more_part test hi s (suc n) e from to above gap = ⊎_elim (λ (l : s < suc n). later l (more_part test hi s n e from (omega arith) above gap)) here (cases_lt s (suc n))
  where
    later : s < suc n → low_part test (suc s) n ≡ s ∷ low_part test hi n → low_part test (suc s) (suc n) ≡ s ∷ low_part test hi (suc n)
    later l r = skip (test (suc n)) r
      where
        skip : (x : Bool) → low_part test (suc s) n ≡ s ∷ low_part test hi n → (if x && nat_lt (suc n) (suc s) then suc n ∷ low_part test (suc s) n else low_part test (suc s) n) ≡ s
            ∷ (if x && nat_lt (suc n) hi then suc n ∷ low_part test hi n else low_part test hi n)
        skip true rest = cc (rest, not_less (suc n) (suc s) (omega arith), not_less (suc n) hi (omega arith))
        skip false rest = rest

    here : suc n ≤ s → low_part test (suc s) (suc n) ≡ s ∷ low_part test hi (suc n)
    here l =
        let same : s ≡ suc n = omega arith in
        let rest = same_part test (suc s) hi n (λ t f l'. less t (suc s) (omega arith) ∙ sym (less t hi (gap t f (omega arith)))) in
        cc (same, e, rest, less (suc n) (suc s) (omega arith), not_less (suc n) hi (omega arith))

-- the numbers 1 to n below a bound, reversed
pub part_of : (test : ℕ → Bool) (k n : ℕ) → reverse (filter (λ t. nat_lt t k) (filter test (up_to n))) ≡ low_part test k n
part_of test k zero = refl
part_of test k (suc n) =
    ap (λ xs. reverse (filter (λ t. nat_lt t k) xs)) (filter-append test (up_to n) (suc n ∷ []))
    ∙ ap reverse (filter-append (λ t. nat_lt t k) (filter test (up_to n)) (filter test (suc n ∷ [])))
    ∙ reverse-append (filter (λ t. nat_lt t k) (filter test (up_to n))) (filter (λ t. nat_lt t k) (filter test (suc n ∷ [])))
    ∙ last (test (suc n)) (nat_lt (suc n) k) refl (part_of test k n)
  where
    last : (x y : Bool) → nat_lt (suc n) k ≡ y → reverse (filter (λ t. nat_lt t k) (filter test (up_to n))) ≡ low_part test k n → reverse (filter (λ t. nat_lt t k) (if x then suc n ∷ [] else []))
        ++ reverse (filter (λ t. nat_lt t k) (filter test (up_to n))) ≡ (if x && nat_lt (suc n) k then suc n ∷ low_part test k n else low_part test k n)
    last true true e rest = cc (e, rest)
    last true false e rest = cc (e, rest)
    last false y e rest = rest

-- the greatest number below s that passes
pub record IsGreatest (test : ℕ → Bool) (s p : ℕ) : Type 0 where
  pub passes : test p ≡ true
  pub below : p < s
  pub greatest : (t : ℕ) → test t ≡ true → t < s → t ≤ p

abbrev pub IsBelow : (ℕ → Bool) → ℕ → Option ℕ → Type 0
IsBelow test s None = (t : ℕ) → test t ≡ true → t < s → ⊥
IsBelow test s (Some p) = IsGreatest test s p

-- the greatest number below s that passes, among the numbers 1 to n
pub record IsGreatestTo (test : ℕ → Bool) (n s p : ℕ) : Type 0 where
  pub passes : test p ≡ true
  pub below : p < s
  pub greatest : (t : ℕ) → test t ≡ true → 1 ≤ t → t ≤ n → t < s → t ≤ p

abbrev pub IsBelowTo : (ℕ → Bool) → ℕ → ℕ → Option ℕ → Type 0
IsBelowTo test n s None = (t : ℕ) → test t ≡ true → 1 ≤ t → t ≤ n → t < s → ⊥
IsBelowTo test n s (Some p) = IsGreatestTo test n s p

below_to : (test : ℕ → Bool) (n s : ℕ) → IsBelowTo test n s (find (λ t. nat_lt t s) (reverse (filter test (up_to n))))
below_to test zero s = λ t e from to l. omega arith
below_to test (suc n) s = subst (λ xs. IsBelowTo test (suc n) s (find (λ t. nat_lt t s) xs))
    (sym (ap reverse (filter-append test (up_to n) (suc n ∷ [])) ∙ reverse-append (filter test (up_to n)) (filter test (suc n ∷ []))))
    (first (test (suc n)) refl (nat_lt (suc n) s) refl _ (below_to test n s))
  where
    next : (found : Option ℕ) → (test (suc n) ≡ true → s ≤ suc n) → IsBelowTo test n s found → IsBelowTo test (suc n) s found
    next None out r = λ t e from to l. r t e from (still out t e to l) l
      where
        still : (test (suc n) ≡ true → s ≤ suc n) → (t : ℕ) → test t ≡ true → t ≤ suc n → t < s → t ≤ n
        still out t e to l = ⊎_elim (λ (x : t < suc n). omega arith) (λ (y : suc n ≤ t). let same : t ≡ suc n = omega arith in absurd (omega (arith, out (subst (λ x. test x ≡ true) same e))))
            (cases_lt t (suc n))
    next (Some p) out r = record { passes = r.passes; below = r.below; greatest = λ t e from to l. r.greatest t e from (still out t e to l) l }
      where
        still : (test (suc n) ≡ true → s ≤ suc n) → (t : ℕ) → test t ≡ true → t ≤ suc n → t < s → t ≤ n
        still out t e to l = ⊎_elim (λ (x : t < suc n). omega arith) (λ (y : suc n ≤ t). let same : t ≡ suc n = omega arith in absurd (omega (arith, out (subst (λ x. test x ≡ true) same e))))
            (cases_lt t (suc n))

    not_lt : nat_lt (suc n) s ≡ false → s ≤ suc n
    not_lt f = grind (arith, nat_tests)

    is_lt : nat_lt (suc n) s ≡ true → suc n < s
    is_lt f = grind (arith, nat_tests)

    first : (x : Bool) → test (suc n) ≡ x → (y : Bool) → nat_lt (suc n) s ≡ y → (rest : List ℕ) → IsBelowTo test n s (find (λ t. nat_lt t s) rest) → IsBelowTo test (suc n) s
        (find (λ t. nat_lt t s) (reverse (if x then suc n ∷ [] else []) ++ rest))
    first true e true f rest r = subst (λ z. IsBelowTo test (suc n) s (cond z (Some (suc n)) (find (λ t. nat_lt t s) rest))) (sym f)
        (record { passes = e; below = is_lt f; greatest = λ t e' from to l. omega arith })
    first true e false f rest r = subst (λ z. IsBelowTo test (suc n) s (cond z (Some (suc n)) (find (λ t. nat_lt t s) rest))) (sym f) (next (find (λ t. nat_lt t s) rest) (λ e'. not_lt f) r)
    first false e y f rest r = next (find (λ t. nat_lt t s) rest) (λ e'. absurd (cc (e, e'))) r

-- the greatest number below, if all that passes is from 1 to n
pub is_below : (test : ℕ → Bool) (n s : ℕ) → ((t : ℕ) → test t ≡ true → (1 ≤ t) × (t ≤ n)) → IsBelow test s (find (λ t. nat_lt t s) (reverse (filter test (up_to n))))
is_below test n s range = whole (find (λ t. nat_lt t s) (reverse (filter test (up_to n)))) (below_to test n s)
  where
    whole : (found : Option ℕ) → IsBelowTo test n s found → IsBelow test s found
    whole None r = λ t e l. r t e (range t e).0 (range t e).1 l
    whole (Some p) r = record { passes = r.passes; below = r.below; greatest = λ t e l. r.greatest t e (range t e).0 (range t e).1 l }

pub test_of : (test : ℕ → Bool) (n s : ℕ) → Contains (filter test (up_to n)) s → test s ≡ true
test_of test n s c = All-contains (λ t. test t ≡ true) (filter test (up_to n)) s (filter_passes test (up_to n)) c

pub contained : (test : ℕ → Bool) (n s : ℕ) → test s ≡ true → 1 ≤ s → s ≤ n → Contains (filter test (up_to n)) s
contained test zero s e from to = absurd (omega arith)
contained test (suc n) s e from to = subst (λ xs. Contains xs s) (sym (filter-append test (up_to n) (suc n ∷ []))) (⊎_elim
    (λ (l : s < suc n). Contains-append_left (filter test (up_to n)) (filter test (suc n ∷ [])) s (contained test n s e from (omega arith)))
    (λ (l : suc n ≤ s). Contains-append_right (filter test (up_to n)) (filter test (suc n ∷ [])) s (single (omega arith)))
    (cases_lt s (suc n)))
  where
    single : s ≡ suc n → Contains (filter test (suc n ∷ [])) s
    single f = subst (λ b. Contains (if b then suc n ∷ [] else []) s) (sym (subst (λ x. test x ≡ true) f e)) (0, omega arith, sym f)

-- the greatest number that passes is the greatest one below the end
pub last_of : (test : ℕ → Bool) (n m : ℕ) → n ≤ m → find (λ t. nat_lt t (suc m)) (reverse (filter test (up_to n))) ≡ find (λ s. true) (reverse (filter test (up_to n)))
last_of test zero m l = refl
last_of test (suc n) m l =
    let split = ap reverse (filter-append test (up_to n) (suc n ∷ [])) ∙ reverse-append (filter test (up_to n)) (filter test (suc n ∷ [])) in
    ap (find (λ t. nat_lt t (suc m))) split ∙ both (test (suc n)) (last_of test n m (omega arith)) ∙ sym (ap (find (λ s. true)) split)
  where
    both : (x : Bool) → find (λ t. nat_lt t (suc m)) (reverse (filter test (up_to n))) ≡ find (λ s. true) (reverse (filter test (up_to n))) → find (λ t. nat_lt t (suc m))
        (reverse (if x then suc n ∷ [] else []) ++ reverse (filter test (up_to n))) ≡ find (λ s. true) (reverse (if x then suc n ∷ [] else []) ++ reverse (filter test (up_to n)))
    both true e = cc (less (suc n) (suc m) (omega arith))
    both false e = e

-- nothing is below 0
pub none_part : (test : ℕ → Bool) (n : ℕ) → low_part test 0 n ≡ []
none_part test zero = refl
none_part test (suc n) = skip (test (suc n)) (none_part test n)
  where
    skip : (x : Bool) → low_part test 0 n ≡ [] → (if x && nat_lt (suc n) 0 then suc n ∷ low_part test 0 n else low_part test 0 n) ≡ []
    skip true e = cc (e, not_less (suc n) 0 (omega arith))
    skip false e = e
