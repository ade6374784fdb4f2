-- What was read of known bytes, with a limit on their number that was not reached, is all of them.
use Rattle.std.proofs.Common.{◌≡◌, ℕ, ◌<◌, ◌≤◌, ◌++◌, List, [], Option, Some, None, IfSome, option_map, length, take, min, arith, rules, subst, ap, ◌∙◌}
use Rattle.std.specs.Io.Take.{take_limit, take_inner, take_remaining}
use Rattle.std.specs.declared.io.Take.{Take}
use Rattle.std.proofs.lemmas.List.{take_all, length-take}

short_front : (n : ℕ) (bytes text : List ℕ) → text ≡ take n bytes → length text < n → text ≡ bytes
short_front n bytes text e less =
    let counts : length text ≡ min n (length bytes) = ap length e ∙ length-take n bytes in
    let short : length bytes ≤ n = omega arith in
    e ∙ take_all n bytes short

known_front : (n : ℕ) (known : Option (List ℕ)) (text : List ℕ) → IfSome (option_map (take n) known) (λ xs. text ≡ xs) → length text < n → IfSome known (λ bytes. text ≡ bytes)
known_front n None text reads less = search rules
known_front n (Some bytes) text reads less = short_front n bytes text reads less

pub whole_front : {R : Type 0} (remaining : R → Option (List ℕ)) (input : R) (t : Take R) (n : ℕ) (old text : List ℕ)
    → take_limit t ≡ n → take_inner t ≡ input → old ≡ []
    → IfSome (take_remaining remaining t) (λ xs. text ≡ old ++ xs) → length text < n → IfSome (remaining input) (λ bytes. text ≡ bytes)
whole_front remaining input t n old text limit inner empty reads less =
    let bare : IfSome (take_remaining remaining t) (λ xs. text ≡ xs) = subst (λ o. IfSome (take_remaining remaining t) (λ xs. text ≡ o ++ xs)) empty reads in
    let front : IfSome (option_map (take n) (remaining input)) (λ xs. text ≡ xs) = rw (← limit, ← inner) bare in
    known_front n (remaining input) text front less
