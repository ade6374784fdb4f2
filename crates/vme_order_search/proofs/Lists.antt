-- A list with one more element behind it.
use Rattle.std.proofs.Common.{◌≡◌, ◌<◌, ◌≤◌, ◌+◌, ◌++◌, ℕ, zero, suc, List, [], ◌∷◌, Some, length, refl, sym, ◌∙◌, subst, ap, arith}
use Rattle.std.specs.List.{slice_get}
use Rattle.std.proofs.lemmas.Option.{none-some, same_Some, slice_get_within}

pub get_before : {X : Type 0} (xs : List X) (x : X) (i : ℕ) → i < length xs
    → slice_get (xs ++ x ∷ []) i ≡ slice_get xs i
get_before [] x i lt = absurd (omega arith)
get_before (y ∷ xs) x zero lt = refl
get_before (y ∷ xs) x (suc i) lt = get_before xs x i (omega arith)

pub get_there : {X : Type 0} (xs : List X) (x : X) → slice_get (xs ++ x ∷ []) (length xs) ≡ Some x
get_there [] x = refl
get_there (y ∷ xs) x = get_there xs x

pub length_more : {X : Type 0} (xs : List X) (x : X) → length (xs ++ x ∷ []) ≡ length xs + 1
length_more [] x = omega arith
length_more (y ∷ xs) x = let e : length (xs ++ x ∷ []) ≡ length xs + 1 = length_more xs x in omega arith

pub get_past : {X : Type 0} (xs : List X) (x y : X) (i : ℕ) → slice_get (xs ++ x ∷ []) i ≡ Some y
    → i < length xs + 1
get_past xs x y i is =
    subst (λ n. i < n) (length_more xs x) (slice_get_within (xs ++ x ∷ []) i y is)

-- what stands behind all others is the last one
pub get_last : {X : Type 0} (xs : List X) (x y : X) (i : ℕ) → length xs ≤ i
    → slice_get (xs ++ x ∷ []) i ≡ Some y → (i ≡ length xs) × (x ≡ y)
get_last xs x y i le is =
    let past : i < length xs + 1 = get_past xs x y i is in
    let at : i ≡ length xs = omega arith in
    (at, same_Some x y (sym (get_there xs x) ∙ ap (slice_get (xs ++ x ∷ [])) (sym at) ∙ is))

pub one_there : {X : Type 0} (xs : List X) (i : ℕ) (x y : X) → slice_get xs i ≡ Some x
    → slice_get xs i ≡ Some y → x ≡ y
one_there xs i x y h g = same_Some x y (sym h ∙ g)

pub none_there : {X : Type 0} (x : X) (i : ℕ) → slice_get {X = X} [] i ≡ Some x → ⊥
none_there x i h = none-some x h
