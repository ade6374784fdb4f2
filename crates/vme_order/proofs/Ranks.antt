-- A search ends: each step leaves less to try.
use Rattle.std.proofs.Common.{◌≡◌, ◌<◌, ◌≤◌, ◌+◌, ◌-◌, ◌*◌, ◌∷◌, [], ℕ, zero, suc, List, length, refl, sym, ◌∙◌, subst, ap, arith}

-- what one place costs, where so many may still follow it
abbrev pub weight : ℕ → ℕ → ℕ
weight n zero = 2
weight n (suc k) = n * weight n k + 2

-- what is left to try at the fronts of a path
abbrev pub pending : ℕ → ℕ → List ℕ → ℕ
pending n d [] = 0
pending n d (p ∷ path) = 1 + ((n - suc p) * weight n d + pending n (suc d) path)

-- what is left to try, where the places below that one were tried
abbrev pub rank : ℕ → List ℕ → ℕ → ℕ
rank n path from = (n - from) * weight n (n - length path) + pending n (suc (n - length path)) path

some_weight : (n k : ℕ) → 2 ≤ weight n k
some_weight n zero = omega arith
some_weight n (suc k) = omega arith

times_le : (a b w : ℕ) → a ≤ b → a * w ≤ b * w
times_le a b w h = grind arith

one_more : (a b w : ℕ) → suc a ≤ b → a * w + w ≤ b * w
one_more a b w h = let le : suc a * w ≤ b * w = times_le (suc a) b w h in grind arith

passed : (a b w rest : ℕ) → suc a ≤ b → 2 ≤ w → a * w + rest < b * w + rest
passed a b w rest h some = let le : a * w + w ≤ b * w = one_more a b w h in omega arith

-- a place was tried in vain
pub pass_less : (n from place : ℕ) (path : List ℕ) → from ≤ place → place < n
    → rank n path (place + 1) < rank n path from
pass_less n from place path behind lt =
    passed (n - (place + 1)) (n - from) (weight n (n - length path))
    (pending n (suc (n - length path)) path) (omega arith) (some_weight n (n - length path))

entered : (n k a b c rest : ℕ) → suc a ≤ b → c ≤ n
    → c * weight n k + (1 + (a * weight n (suc k) + rest)) < b * weight n (suc k) + rest
entered n k a b c rest h le =
    let more : a * weight n (suc k) + weight n (suc k) ≤ b * weight n (suc k) =
        one_more a b (weight n (suc k)) h in
    let most : c * weight n k ≤ n * weight n k = times_le c n (weight n k) le in
    omega arith

entered_at : (n k d from place new : ℕ) (path : List ℕ) → d ≡ suc k → from ≤ place → place < n
    → (n - new) * weight n k + pending n (suc k) (place ∷ path)
    < (n - from) * weight n d + pending n (suc d) path
entered_at n k d from place new path is behind lt =
    subst (λ (e : ℕ). (n - new) * weight n k + pending n (suc k) (place ∷ path)
    < (n - from) * weight n e + pending n (suc e) path) (sym is)
    (entered n k (n - suc place) (n - from) (n - new) (pending n (suc (suc k)) path)
    (omega arith) (omega arith))

-- a path goes on with a place
pub enter_less : (n from place new : ℕ) (path : List ℕ) → length path < n → from ≤ place
    → place < n → rank n (place ∷ path) new < rank n path from
enter_less n from place new path room behind lt =
    entered_at n (n - length (place ∷ path)) (n - length path) from place new path
    (let e : n - length path ≡ suc (n - suc (length path)) = omega arith in e) behind lt

left_at : (n k d from p : ℕ) (path : List ℕ) → d ≡ suc k
    → (n - (p + 1)) * weight n d + pending n (suc d) path
    < (n - from) * weight n k + pending n (suc k) (p ∷ path)
left_at n k d from p path is =
    subst (λ (e : ℕ). (n - (p + 1)) * weight n e + pending n (suc e) path
    < (n - from) * weight n k + pending n (suc k) (p ∷ path)) (sym is)
    (let same : n - (p + 1) ≡ n - suc p = omega arith in rw same (omega arith))

-- a path goes back by a place
pub leave_less : (n from p : ℕ) (path : List ℕ) → length (p ∷ path) ≤ n
    → rank n path (p + 1) < rank n (p ∷ path) from
leave_less n from p path fits =
    left_at n (n - length (p ∷ path)) (n - length path) from p path
    (let e : n - length path ≡ suc (n - suc (length path)) = omega arith in e)
