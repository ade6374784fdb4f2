-- Lists that grow by what passes a test.
use Rattle.std.proofs.Common.{◌≡◌, ◌∙◌, sym, ap, ℕ, ◌+◌, ◌<◌, Bool, true, false, List, [], ◌∷◌, ◌++◌, length, map, take, get_or, append_assoc, append-nil}
use Rattle.std.specs.Prelude.{if◌then◌else◌, filter}
use Rattle.std.proofs.lemmas.List.{map-append, take_more}
use Rattle.std.proofs.lemmas.List.Elements.{filter-append}

pub grown : {A B : Type 0} (f : A → B) (test : A → Bool) (o n m : List B) (xs ys : List A) → n ≡ o ++ map f (filter test xs) → m ≡ n ++ map f (filter test ys) → m ≡ o ++ map f (filter test (xs ++ ys))
grown {A} {B} f test o n m xs ys e g =
    g ∙ ap (λ (t : List B). t ++ map f (filter test ys)) e
    ∙ append_assoc o (map f (filter test xs)) (map f (filter test ys))
    ∙ ap (λ (t : List B). o ++ t) (sym (map-append f (filter test xs) (filter test ys)))
    ∙ ap (λ (t : List A). o ++ map f t) (sym (filter-append test xs ys))

-- one that passes, and one that doesn't
pub passed_more : {A B : Type 0} (f : A → B) (test : A → Bool) (x : A) (o n : List B) (w : B) → test x ≡ true → w ≡ f x → n ≡ o ++ w ∷ [] → n ≡ o ++ map f (filter test (x ∷ []))
passed_more {A} {B} f test x o n w e g h =
    h ∙ ap (λ (v : B). o ++ v ∷ []) g ∙ ap (λ (t : Bool). o ++ map f (if t then x ∷ [] else [])) (sym e)

pub failed_more : {A B : Type 0} (f : A → B) (test : A → Bool) (x : A) (o : List B) → test x ≡ false → o ≡ o ++ map f (filter test (x ∷ []))
failed_more {A} {B} f test x o e =
    sym (append-nil o) ∙ ap (λ (t : Bool). o ++ map f (if t then x ∷ [] else [])) (sym e)

-- the next element of a list
pub next_grown : {A B : Type 0} (f : A → B) (test : A → Bool) (xs : List A) (i : ℕ) (x : A) (o n m : List B) → i < length xs → n ≡ o ++ map f (filter test (take i xs)) → m ≡ n
    ++ map f (filter test (get_or xs i x ∷ [])) → m ≡ o ++ map f (filter test (take (i + 1) xs))
next_grown {A} {B} f test xs i x o n m lt e g =
    grown f test o n m (take i xs) (get_or xs i x ∷ []) e g
    ∙ ap (λ (t : List A). o ++ map f (filter test t)) (sym (take_more xs i x lt))
