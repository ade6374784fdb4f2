-- What the last one of some changes of a sample says, and how many of them are in a set.
use Rattle.std.proofs.Common.{◌≡◌, ◌≢◌, ◌⊎◌, ◌∙◌, ◌<◌, ◌≤◌, ◌+◌, ℕ, zero, suc, Bool, true, false, inl, inr, refl, sym, ap, subst, arith}
use Rattle.std.specs.Prelude.{◌&&◌, if◌then◌else◌}
use Rattle.std.proofs.lemmas.Bool.{cases_lt}

-- what the last of the first n places says that is mine and is there, or else what was first
abbrev pub said : {A : Type 0} → (ℕ → Bool) → (ℕ → A) → A → (ℕ → Bool) → ℕ → A
said mine says first there zero = first
said mine says first there (suc n) =
    if mine n && there n then says n else said mine says first there n

-- how many of the first n places are mine and are there
abbrev pub count : (ℕ → Bool) → (ℕ → Bool) → ℕ → ℕ
count mine there zero = 0
count mine there (suc n) = if mine n && there n then count mine there n + 1 else count mine there n

and_same : (m a b : Bool) → (m ≡ true → a ≡ b) → (m && a) ≡ (m && b)
and_same true a b e = e refl
and_same false a b e = refl

and_off : (m a : Bool) → (m ≡ true → a ≡ false) → (m && a) ≡ false
and_off true a e = e refl
and_off false a e = refl

none_and : (m : Bool) → (m && false) ≡ false
none_and true = refl
none_and false = refl

module _ (mine : ℕ → Bool) where
  module _ {A : Type 0} (says : ℕ → A) (first : A) where
    pub said_same : (a b : ℕ → Bool) (n : ℕ) → ((j : ℕ) → j < n → mine j ≡ true → a j ≡ b j) → said mine says first a n ≡ said mine says first b n
    said_same a b zero same = refl
    said_same a b (suc n) same =
        ap (λ x. if x then says n else said mine says first a n) (and_same (mine n) (a n) (b n) (same n (omega arith)))
        ∙ ap (λ x. if mine n && b n then says n else x) (said_same a b n (λ j l. same j (omega (arith, l))))

    -- the others are not there
    pub said_up : (a : ℕ → Bool) (i n : ℕ) → i ≤ n → ((j : ℕ) → i ≤ j → j < n → mine j ≡ true → a j ≡ false) → said mine says first a n ≡ said mine says first a i
    said_up a i zero l off = let z : i ≡ 0 = omega (arith, l) in ap (said mine says first a) (sym z)
    said_up a i (suc n) l off = by_order (cases_lt n i) (λ m. said_up a i n m (λ j x y. off j x (omega (arith, y))))
      where
        by_order : (n < i) ⊎ (i ≤ n) → (i ≤ n → said mine says first a n ≡ said mine says first a i) → said mine says first a (suc n) ≡ said mine says first a i
        by_order (inl m) rest = let e : i ≡ suc n = omega (arith, l, m) in ap (said mine says first a) (sym e)
        by_order (inr m) rest = ap (λ x. if x then says n else said mine says first a n) (and_off (mine n) (a n) (off n m (omega arith))) ∙ rest m

    -- the last one there
    pub said_last : (a : ℕ → Bool) (i n : ℕ) → i < n → mine i ≡ true → a i ≡ true → ((j : ℕ) → i < j → j < n → mine j ≡ true → a j ≡ false) → said mine says first a n ≡ says i
    said_last a i n l own on off =
        said_up a (suc i) n (omega (arith, l)) (λ j x y. off j (omega (arith, x)) y)
        ∙ ap (λ x. if x && a i then says i else said mine says first a i) own
        ∙ ap (λ x. if x then says i else said mine says first a i) on

  pub count_same : (a b : ℕ → Bool) (n : ℕ) → ((j : ℕ) → j < n → mine j ≡ true → a j ≡ b j) → count mine a n ≡ count mine b n
  count_same a b zero same = refl
  count_same a b (suc n) same =
      ap (λ x. if x then count mine a n + 1 else count mine a n) (and_same (mine n) (a n) (b n) (same n (omega arith)))
      ∙ ap (λ x. if mine n && b n then x + 1 else x) (count_same a b n (λ j l. same j (omega (arith, l))))

  pub count_none : (a : ℕ → Bool) (n : ℕ) → ((j : ℕ) → a j ≡ false) → count mine a n ≡ 0
  count_none a zero off = refl
  count_none a (suc n) off = ap (λ x. if x then count mine a n + 1 else count mine a n) (and_off (mine n) (a n) (λ x. off n)) ∙ count_none a n off

  -- one more
  pub count_more : (a b : ℕ → Bool) (i n : ℕ) → i < n → mine i ≡ true → a i ≡ false → b i ≡ true → ((j : ℕ) → j ≢ i → b j ≡ a j) → count mine b n ≡ count mine a n + 1
  count_more a b i zero l own off on same = absurd (omega (arith, l))
  count_more a b i (suc n) l own off on same = by_order (cases_lt i n) (λ m. count_more a b i n m own off on same)
    where
      by_order : (i < n) ⊎ (n ≤ i) → (i < n → count mine b n ≡ count mine a n + 1) → count mine b (suc n) ≡ count mine a (suc n) + 1
      by_order (inl m) rest =
          ap (λ x. if mine n && x then count mine b n + 1 else count mine b n) (same n (λ e. absurd (omega (arith, m, e))))
          ∙ ap (λ x. if mine n && a n then x + 1 else x) (rest m) ∙ out (mine n && a n) (count mine a n)
        where
          out : (t : Bool) (k : ℕ) → (if t then k + 1 + 1 else k + 1) ≡ (if t then k + 1 else k) + 1
          out true k = refl
          out false k = refl
      by_order (inr m) rest =
          let e : i ≡ n = omega (arith, l, m) in
          at_end (subst (λ k. mine k ≡ true) e own) (subst (λ k. a k ≡ false) e off) (subst (λ k. b k ≡ true) e on)
          (count_same b a n (λ j x y. same j (λ q. absurd (omega (arith, x, q, e)))))
        where
          at_end : mine n ≡ true → a n ≡ false → b n ≡ true → count mine b n ≡ count mine a n → count mine b (suc n) ≡ count mine a (suc n) + 1
          at_end own off on rest =
              ap (λ x. if x && b n then count mine b n + 1 else count mine b n) own ∙ ap (λ x. if x then count mine b n + 1 else count mine b n) on ∙ ap (λ x. x + 1) rest
              ∙ sym (ap (λ x. (if mine n && x then count mine a n + 1 else count mine a n) + 1) off ∙ ap (λ x. (if x then count mine a n + 1 else count mine a n) + 1) (none_and (mine n)))
