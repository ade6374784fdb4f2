-- The ends of verdict lines that stand in a table.
use Rattle.std.proofs.Common.{◌≡◌, ℕ, ◌<◌, List, [], ◌∷◌, ◌++◌, take, get_or, codes, true, ltb, cond, refl}
use Rattle.std.specs.Fmt.{decimal, digits}
use Rattle.std.specs.Str.{bytes_eq}
use Rattle.std.proofs.lemmas.Bool.{agree_below_at}
use Rattle.std.proofs.lemmas.Slice.Eq.{bytes_eq-Decides}
use Rattle.vme_engines.specs.declared.tails.TheConstants.{RULES}

-- how many bytes the end has that names rule k
abbrev pub size : ℕ → ℕ
size k = cond (ltb k 10) 7 8

-- these bytes
abbrev pub end_of : ℕ → List ℕ
end_of k = codes " E3 G" ++ (decimal k ++ 10 ∷ [])

-- each row of the table begins with the end of its rule
pub row_is_end : (k : ℕ) → k < 32 → take (size k) (get_or RULES k []) ≡ end_of k
unfolding digits
row_is_end k h =
    (bytes_eq-Decides (take (size k) (get_or RULES k [])) (end_of k)).0
    (agree_below_at (λ i. bytes_eq (take (size i) (get_or RULES i [])) (end_of i)) (λ i. true) 32 k refl h)
