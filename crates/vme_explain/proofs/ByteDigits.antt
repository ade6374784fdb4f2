-- A number's text behind other text, digit by digit.
use Rattle.std.proofs.Common.{◌≡◌, ℕ, ◌+◌, ◌/◌, ◌%◌, ◌^◌, ◌<◌, ◌≤◌, List, [], ◌∷◌, ◌++◌, decimal, sym, ◌∙◌, ap, append_assoc}
use Rattle.std.proofs.lemmas.Fmt.{decimal_digit, decimal_step}

-- a number below ten is one digit
pub digit_alone : (l : List ℕ) (n d : ℕ) → d ≡ n → n < 10 → l ++ (48 + d) ∷ [] ≡ l ++ decimal n
digit_alone l n d e h = ap (λ x. l ++ (48 + x) ∷ []) e ∙ ap (λ ds. l ++ ds) (sym (decimal_digit n h))

-- a number's last digit stands behind the digits of its tenth
pub digit_behind : (l m : List ℕ) (n : ℕ) → 10 ≤ n → n < 2 ^ 64 → m ≡ l ++ decimal (n / 10) → m ++ (48 + n % 10) ∷ [] ≡ l ++ decimal n
digit_behind l m n h small e =
    ap (λ x. x ++ (48 + n % 10) ∷ []) e ∙ append_assoc l (decimal (n / 10)) ((48 + n % 10) ∷ []) ∙ ap (λ ds. l ++ ds) (sym (decimal_step n h small))
