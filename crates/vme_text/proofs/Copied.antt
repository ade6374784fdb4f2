-- A row that is copied to the end of a text.
use Rattle.std.proofs.Common.{◌≡◌, ℕ, ◌+◌, ◌-◌, ◌≤◌, List, [], ◌∷◌, ◌++◌, length, take, drop, slice_set, sym, ◌∙◌, ap, append_assoc, arith}
use Rattle.std.proofs.Math.Seq.{take-append-add}
use Rattle.std.proofs.lemmas.List.{take-append-le, length-drop, length-set, length-take-le, take_all, take_more_set, take-take}
use borrow.Rule.Slice.PartMut.{put_mid, post_of, same_len_mid}

-- among the bytes up to `len` and a row that was copied after them, the first `len + many`
pub first_of_row : (len many n k : ℕ) (bytes row mid : List ℕ) → len ≤ length bytes → many ≤ n → n ≤ length row → mid ≡ take n row
    → take (len + many) (put_mid len k bytes mid) ≡ take len bytes ++ take many row
first_of_row len many n k bytes row mid within few long is =
    let all : length (take len bytes) ≡ len = length-take-le len bytes within in
    let room : many ≤ length mid = let size : length mid ≡ n = ap length is ∙ length-take-le n row long in omega arith in
    ap (λ i. take (i + many) (take len bytes ++ (mid ++ post_of len k bytes))) (sym all)
    ∙ take-append-add (take len bytes) (mid ++ post_of len k bytes) many
    ∙ ap (λ l. take len bytes ++ l) (take-append-le many mid (post_of len k bytes) room ∙ ap (take many) is ∙ take-take many n row few)

-- a list as long as the part that it replaces
length_put : (a n k : ℕ) (bytes mid : List ℕ) → k ≡ n → a + n ≤ length bytes → length mid ≡ n → length (put_mid a k bytes mid) ≡ length bytes
length_put a n k bytes mid is within size =
    let rest : length (drop a bytes) ≡ length bytes - a = length-drop a bytes in
    let part : length (take k (drop a bytes)) ≡ k = length-take-le k (drop a bytes) (omega arith) in same_len_mid a k bytes mid (size ∙ sym is ∙ sym part)

-- among the bytes up to `len`, a row that was copied after them, a digit that was put over it or
-- after it, and a tail that was copied after that: the first `len + many + 1 + size`
pub line_of_parts : (len many size j k digit : ℕ) (bytes row mid tail rest : List ℕ) → j ≡ 24 → k ≡ 8 → many ≤ 24 → size ≤ 8 → 24 ≤ length row → length rest ≡ 8 → len + 33 ≤ length bytes → mid
    ≡ take 24 row → rest ≡ tail
    → take (len + many + 1 + size) (put_mid (len + many + 1) k (slice_set (put_mid len j bytes mid) (len + many) digit) rest) ≡ take len bytes ++ (take many row ++ (digit ∷ take size tail))
line_of_parts len many size j k digit bytes row mid tail rest is_j is_k few short long whole room is is_tail =
    let size_mid : length mid ≡ 24 = ap length is ∙ length-take-le 24 row long in
    let first : List ℕ = put_mid len j bytes mid in
    let size_first : length first ≡ length bytes = length_put len 24 j bytes mid is_j (omega arith) size_mid in
    let second : List ℕ = slice_set first (len + many) digit in
    let size_second : length second ≡ length bytes = length-set first (len + many) digit ∙ size_first in
    let front : take (len + many) first ≡ take len bytes ++ take many row = first_of_row len many 24 j bytes row mid (omega arith) few long is in
    let start : take (len + many + 1) second ≡ (take len bytes ++ take many row) ++ (digit ∷ []) =
    take_more_set first (len + many) digit (omega arith) ∙ ap (λ l. l ++ (digit ∷ [])) front in
    let size_tail : length tail ≡ 8 = sym (ap length is_tail) ∙ whole in
    first_of_row (len + many + 1) size 8 k second tail rest (omega arith) short (omega arith) (is_tail ∙ sym (take_all 8 tail (omega arith)))
    ∙ ap (λ l. l ++ take size tail) start
    ∙ append_assoc (take len bytes ++ take many row) (digit ∷ []) (take size tail)
    ∙ append_assoc (take len bytes) (take many row) (digit ∷ take size tail)
