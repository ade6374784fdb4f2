-- A list that grows by each number's edge.
use Rattle.std.proofs.Common.{◌≡◌, ◌∙◌, sym, ap, ◌≤◌, ◌+◌, ◌-◌, ℕ, zero, suc, Bool, List, [], ◌∷◌, ◌++◌, map, filter, arith}
use Rattle.std.proofs.lemmas.List.{map-append}
use Rattle.vme_model.specs.Plan.{up_to}
use Rattle.vme_histories.proofs.More.{one_more}

-- the numbers up to the next
up_to_next : (n : ℕ) → 1 ≤ n → up_to n ≡ up_to (n - 1) ++ n ∷ []
up_to_next zero from = absurd (omega arith)
up_to_next (suc n) from = let same : n ≡ suc n - 1 = omega arith in ap (λ k. up_to k ++ suc n ∷ []) same

-- what is made of the next number stands after what is made of the numbers below it
pub next_more : {A B : Type 0} (test : A → Bool) (f : B → A) (g : ℕ → B) (n : ℕ) (o before after : List A) → 1 ≤ n →
    before ≡ o ++ filter test (map f (map g (up_to (n - 1)))) → after ≡ before ++ filter test (f (g n) ∷ []) →
    after ≡ o ++ filter test (map f (map g (up_to (n + 1 - 1))))
next_more test f g n o before after from is then =
    let below = up_to (n - 1) in
    let same : n ≡ n + 1 - 1 = omega arith in
    let numbers = ap (map g) (up_to_next n from) ∙ map-append g below (n ∷ []) in
    one_more test o before after (map f (map g below)) (f (g n) ∷ []) is then
    ∙ ap (λ t. o ++ filter test t) (sym (ap (map f) numbers ∙ map-append f (map g below) (g n ∷ [])))
    ∙ ap (λ k. o ++ filter test (map f (map g (up_to k)))) same
