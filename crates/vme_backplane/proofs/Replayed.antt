-- The stored edges, made once more from the first.
use Rattle.std.proofs.Common.{◌≡◌, ◌∙◌, refl, sym, ap, subst, ℕ, zero, suc, List, [], ◌∷◌, ◌++◌, ◌+◌, take, drop, length, reverse, add-one}
use Rattle.std.specs.Prelude.{Some, Ok}
use Rattle.std.specs.List.{slice_get}
use Rattle.std.proofs.lemmas.List.{reverse-append, reverse-reverse, length-reverse}
use Rattle.vme_model.specs.declared.signals.Version.{Version}
use Rattle.vme_model.specs.declared.signals.Edge.{Edge}
use Rattle.vme_model.specs.Plan.{Plan}
use Rattle.vme_model.specs.History.{in_order}
use Rattle.vme_model.specs.Verdict.{IsLegal, verdict_but_full}

one_more : (xs : List Edge) (i : ℕ) (e : Edge) → slice_get xs i ≡ Some e → take (suc i) xs ≡ take i xs ++ e ∷ []
one_more [] i e is = absurd (cc)
one_more (x ∷ xs) zero e is = let same : x ≡ e = cc in ap (λ t. t ∷ []) same
one_more (x ∷ xs) (suc i) e is = ap (λ t. x ∷ t) (one_more xs i e is)

-- the edge after the first i
pub next_edge : (xs : List Edge) (i : ℕ) (e : Edge) → slice_get xs i ≡ Some e → reverse (take (i + 1) xs) ≡ e ∷ reverse (take i xs)
next_edge xs i e is = ap (λ n. reverse (take n xs)) (add-one i) ∙ ap (λ (ys : List Edge). reverse ys) (one_more xs i e is) ∙ reverse-append (take i xs) (e ∷ [])

split_at : (xs : List Edge) (n : ℕ) → xs ≡ take n xs ++ drop n xs
split_at xs zero = refl
split_at [] (suc n) = refl
split_at (x ∷ xs) (suc n) = ap (λ t. x ∷ t) (split_at xs n)

legal_before : (version : Version) (p : Plan) (a b : List Edge) → IsLegal version p (a ++ b) → IsLegal version p b
legal_before version p [] b legal = legal
legal_before version p (x ∷ a) b legal = legal_before version p a b legal.1

was_allowed_in : (version : Version) (p : Plan) (xs : List Edge) (i : ℕ) (e : Edge) → IsLegal version p (reverse xs) → slice_get xs i ≡ Some e → verdict_but_full version p
    (reverse (take i xs)) e ≡ Ok tt
was_allowed_in version p xs i e legal is =
    let whole : reverse xs ≡ reverse (drop (i + 1) xs) ++ reverse (take (i + 1) xs) = ap (λ (ys : List Edge). reverse ys) (split_at xs (i + 1)) ∙ reverse-append (take (i + 1) xs) (drop (i + 1) xs) in
    let front = legal_before version p (reverse (drop (i + 1) xs)) (reverse (take (i + 1) xs)) (subst (IsLegal version p) whole legal) in
    (subst (IsLegal version p) (next_edge xs i e is) front).0

-- the rules allowed that edge
pub was_allowed : (version : Version) (p : Plan) (h : List Edge) (i : ℕ) (e : Edge) → IsLegal version p h → slice_get (in_order h) i ≡ Some e → verdict_but_full version p
    (reverse (take i (in_order h))) e ≡ Ok tt
was_allowed version p h i e legal is = was_allowed_in version p (in_order h) i e (subst (IsLegal version p) (sym (reverse-reverse h)) legal) is

take_all : (xs : List Edge) → take (length xs) xs ≡ xs
take_all [] = refl
take_all (x ∷ xs) = ap (λ t. x ∷ t) (take_all xs)

-- all edges
pub all_made : (h : List Edge) → reverse (take (length h) (in_order h)) ≡ h
all_made h = ap (λ n. reverse (take n (in_order h))) (sym (length-reverse h)) ∙ ap (λ (ys : List Edge). reverse ys) (take_all (in_order h)) ∙ reverse-reverse h
