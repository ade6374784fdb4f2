-- The answers to edges, and what is written of them.
use Rattle.std.proofs.Common.{◌≡◌, ℕ, suc, ◌+◌, ◌≤◌, List, [], ◌∷◌, ◌++◌, length, drop, take, map, Option, Some, None, Result, Ok, Err, true, refl, sym, ◌∙◌, ap, append_assoc, arith}
use Rattle.std.specs.List.{list_all}
use Rattle.std.proofs.lemmas.List.{length-map, length-take-le, map-append, take-append-drop}
use Rattle.vme_model.specs.declared.deliveries.Delivery.{Delivery}
use Rattle.vme_model.specs.declared.refusals.Refused.{Refused}
use Rattle.vme_model.specs.declared.signals.Edge.{Edge}
use Rattle.vme_model.specs.Verdict.{State, after, kept}
use Rattle.vme_model.specs.Deliveries.{answer}
use Rattle.vme_model.specs.Report.{verdict_line, verdict_lines}
use Rattle.vme_bus.specs.declared.answers.AnswerRecord.{AnswerRecord}
use Rattle.vme_bus.specs.Answers.{answer_of, answers, is_plain}
use Rattle.vme_replay.specs.Recorded.{answer_lines, plain_lines}
use Rattle.vme_reading.proofs.WrittenLines.{lines_append}

-- ---- the lines

-- what is written of edges is written of the answers to them
pub lines_are : (b : State) (n : ℕ) (es : List Edge) → verdict_lines b n es ≡ answer_lines n (answers b es)
lines_are b n [] = refl
lines_are b n (e ∷ es) = ap (λ l. verdict_line n (answer b e) ++ l) (lines_are (after b e) (n + 1) es)

-- the lines of answers, and of others behind them
answer_lines_append : (n : ℕ) (xs ys : List (Result (Option Delivery) Refused)) → answer_lines n (xs ++ ys) ≡ answer_lines n xs ++ answer_lines (n + length xs) ys
answer_lines_append n [] ys = ap (λ m. answer_lines m ys) (omega arith)
answer_lines_append n (x ∷ xs) ys =
    ap (λ l. verdict_line n x ++ l) (answer_lines_append (n + 1) xs ys) ∙ ap (λ m. verdict_line n x ++ (answer_lines (n + 1) xs ++ answer_lines m ys)) (omega arith)
    ∙ sym (append_assoc (verdict_line n x) (answer_lines (n + 1) xs) _)

-- those of a first group of answers, and of the others
pub lines_of_group : (n many later : ℕ) (rs group behind : List AnswerRecord) → many ≤ length rs → group ≡ take many rs → behind ≡ drop many rs → later ≡ n + many
    → answer_lines n (map answer_of rs) ≡ answer_lines n (map answer_of group) ++ answer_lines later (map answer_of behind)
lines_of_group n many later rs group behind h front back number =
    let size : length (map answer_of (take many rs)) ≡ many = length-map (take many rs) answer_of ∙ length-take-le many rs h in
    rw (front, back, number)
    (ap (λ l. answer_lines n (map answer_of l)) (sym (take-append-drop many rs)) ∙ ap (answer_lines n) (map-append answer_of (take many rs) (drop many rs))
    ∙ answer_lines_append n (map answer_of (take many rs)) (map answer_of (drop many rs))
    ∙ ap (λ k. answer_lines n (map answer_of (take many rs)) ++ answer_lines (n + k) (map answer_of (drop many rs))) size)

-- those of the answers to a first chunk of edges, and of the others
pub lines_of_chunk : (b next : State) (n later : ℕ) (es chunk behind : List Edge) (xs : List (Result (Option Delivery) Refused)) → es ≡ chunk ++ behind → next ≡ kept b chunk → later ≡ n + length chunk
    → xs ≡ answers b chunk → verdict_lines b n es ≡ answer_lines n xs ++ verdict_lines next later behind
lines_of_chunk b next n later es chunk behind xs split state number all =
    rw (split, state, number, all) (lines_append b n chunk behind ∙ ap (λ l. l ++ verdict_lines (kept b chunk) (n + length chunk) behind) (lines_are b n chunk))

-- ---- the lines of edges that are accepted and deliver nothing

pub plain_are : (n : ℕ) (xs : List (Result (Option Delivery) Refused)) → list_all is_plain xs ≡ true → answer_lines n xs ≡ plain_lines n (length xs)
plain_are n [] h = refl
plain_are n (Ok None ∷ xs) h = ap (λ l. verdict_line n (Ok None) ++ l) (plain_are (n + 1) xs h)
plain_are n (Ok (Some d) ∷ xs) h = absurd (cc)
plain_are n (Err refused ∷ xs) h = absurd (cc)

-- one of them is written, and fewer are left
pub plain_more : (n next many fewer : ℕ) (text longer whole : List ℕ) → many ≡ suc fewer → next ≡ n + 1 → text ++ plain_lines n many ≡ whole → longer ≡ text ++ verdict_line n (Ok None)
    → longer ++ plain_lines next fewer ≡ whole
plain_more n next many fewer text longer whole is_many is_next run is =
    rw (is_next, is) (append_assoc text (verdict_line n (Ok None)) (plain_lines (n + 1) fewer) ∙ ap (λ k. text ++ plain_lines n k) (sym is_many) ∙ run)
