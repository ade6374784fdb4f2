-- The ends of verdict lines that stand in a table.
use Rattle.std.proofs.Common.{◌≡◌, ℕ, ◌<◌, ◌≤◌, List, [], ◌∷◌, ◌++◌, take, get_or, codes, true, ltb, Option, Result, refl, sym, ◌∙◌, ap, append_assoc, arith}
use Rattle.std.specs.Fmt.{decimal, digits}
use Rattle.std.specs.Str.{bytes_eq}
use Rattle.std.proofs.lemmas.Bool.{agree_below_at, ltb-true}
use Rattle.std.proofs.lemmas.Slice.Eq.{bytes_eq-Decides}
use Rattle.vme_model.specs.declared.deliveries.Delivery.{Delivery}
use Rattle.vme_model.specs.declared.refusals.Refused.{Refused}
use Rattle.vme_model.specs.Report.{verdict_text, verdict_line}
use Rattle.vme_bus.specs.Answers.{answer_in}
use Rattle.vme_replay.specs.declared.tails.TheConstants.{ENDS, SIZES}

-- the end of the line of an answer
abbrev pub end_of : ℕ → Delivery → List ℕ
end_of n d = (codes " " ++ verdict_text (answer_in n d)) ++ 10 ∷ []

-- each row of the table begins with the end of its answer
pub row_is_end : (n : ℕ) (d : Delivery) → n < 64 → take (get_or SIZES n 0) (get_or ENDS n []) ≡ end_of n d
unfolding digits
row_is_end n d h =
    (bytes_eq-Decides (take (get_or SIZES n 0) (get_or ENDS n [])) (end_of n d)).0
    (agree_below_at (λ i. bytes_eq (take (get_or SIZES i 0) (get_or ENDS i [])) (end_of i d)) (λ i. true) 64 n refl h)

-- no row is longer than eight bytes
pub size_fits : (n : ℕ) → n < 64 → get_or SIZES n 0 ≤ 8
size_fits n h =
    let small : get_or SIZES n 0 < 9 = ltb-true (get_or SIZES n 0) 9 (agree_below_at (λ i. ltb (get_or SIZES i 0) 9) (λ i. true) 64 n refl h) in omega arith

-- a number and the end of a line
pub line_of : (m : ℕ) (found : Result (Option Delivery) Refused) → decimal m ++ ((codes " " ++ verdict_text found) ++ 10 ∷ []) ≡ verdict_line m found
line_of m found =
    sym (append_assoc (decimal m) (codes " " ++ verdict_text found) (10 ∷ [])) ∙ ap (λ l. l ++ 10 ∷ []) (sym (append_assoc (decimal m) (codes " ") (verdict_text found)))

-- a number and the row of an answer
pub line_in_table : (m n : ℕ) (d : Delivery) → n < 64 → decimal m ++ take (get_or SIZES n 0) (get_or ENDS n []) ≡ verdict_line m (answer_in n d)
line_in_table m n d h = ap (λ l. decimal m ++ l) (row_is_end n d h) ∙ line_of m (answer_in n d)
