-- Lists that grow by what passes a test.
use Rattle.std.proofs.Common.{◌≡◌, ◌∙◌, sym, ap, Bool, List, [], ◌∷◌, ◌++◌, filter, append_assoc}
use Rattle.std.proofs.lemmas.List.{append-nil}
use Rattle.std.proofs.lemmas.List.Elements.{filter-append}

pub one_more : {A : Type 0} (test : A → Bool) (o n m xs ys : List A) → n ≡ o ++ filter test xs → m ≡ n ++ filter test ys → m ≡ o ++ filter test (xs ++ ys)
one_more {A} test o n m xs ys e f =
    f ∙ ap (λ (t : List A). t ++ filter test ys) e ∙ append_assoc o (filter test xs) (filter test ys) ∙ ap (λ (t : List A). o ++ t) (sym (filter-append test xs ys))

pub three_more : {A : Type 0} (test : A → Bool) (o n m k : List A) (a b c : A) → n ≡ o ++ filter test (a ∷ []) → m ≡ n ++ filter test (b ∷ []) → k ≡ m ++ filter test (c ∷ []) → k ≡ o
    ++ filter test (a ∷ b ∷ c ∷ [])
three_more {A} test o n m k a b c e f g = one_more test o m k (a ∷ b ∷ []) (c ∷ []) (one_more test o n m (a ∷ []) (b ∷ []) e f) g

pub two_more_behind : {A : Type 0} (test : A → Bool) (o n m k xs : List A) (a b : A) → n ≡ o ++ filter test xs → m ≡ n ++ filter test (a ∷ []) → k ≡ m ++ filter test (b ∷ []) → k ≡ o
    ++ filter test (xs ++ a ∷ b ∷ [])
two_more_behind {A} test o n m k xs a b e f g = one_more test o n k xs (a ∷ b ∷ []) e (one_more test n m k (a ∷ []) (b ∷ []) f g)

pub none_more : {A : Type 0} (xs ys : List A) → ys ≡ [] → xs ≡ xs ++ ys
none_more {A} xs ys e = sym (ap (λ (t : List A). xs ++ t) e ∙ append-nil xs)
