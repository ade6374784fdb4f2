-- Bytes as numbers: two lines with the same number are the same.
use Rattle.std.proofs.Common.{◌≡◌, ◌<◌, ◌≤◌, ◌+◌, ◌-◌, ◌*◌, ◌^◌, ◌%◌, ℕ, zero, suc, List, [], ◌∷◌, ◌++◌, get_or, take, drop, bit_and, arith, refl, sym, ◌∙◌, ap}
use Rattle.std.proofs.lemmas.List.{drop-take}
use Rattle.std.proofs.lemmas.Nat.{and_mask, mod-mul-add, pow-add}
use Rattle.vme_trace.specs.Known.{number_of}

abbrev pub AreBytes : List ℕ → Type 0
AreBytes [] = Unit {0}
AreBytes (b ∷ bs) = (b < 256) × AreBytes bs

pub are_bytes : (xs : List ℕ) → ((k : ℕ) → get_or xs k 0 < 256) → AreBytes xs
are_bytes [] h = tt
are_bytes (x ∷ xs) h = (h 0, are_bytes xs (λ k. h (suc k)))

pub bytes_at : (xs : List ℕ) → AreBytes xs → (k : ℕ) → get_or xs k 0 < 256
bytes_at [] h k = omega arith
bytes_at (x ∷ xs) h zero = h.0
bytes_at (x ∷ xs) h (suc k) = bytes_at xs h.1 k

pub AreBytes-take : (k : ℕ) (xs : List ℕ) → AreBytes xs → AreBytes (take k xs)
AreBytes-take zero xs h = tt
AreBytes-take (suc k) [] h = tt
AreBytes-take (suc k) (x ∷ xs) h = (h.0, AreBytes-take k xs h.1)

pub AreBytes-drop : (k : ℕ) (xs : List ℕ) → AreBytes xs → AreBytes (drop k xs)
AreBytes-drop zero xs h = h
AreBytes-drop (suc k) [] h = tt
AreBytes-drop (suc k) (x ∷ xs) h = AreBytes-drop k xs h.1

pub AreBytes-front : (a b : List ℕ) → AreBytes (a ++ b) → AreBytes a
AreBytes-front [] b h = tt
AreBytes-front (x ∷ a) b h = (h.0, AreBytes-front a b h.1)

-- ---- the first bytes of a number

-- 256 to the power of a number
abbrev worth : ℕ → ℕ
worth zero = 1
worth (suc k) = 256 * worth k

worth_is : (k : ℕ) → worth k ≡ 2 ^ (8 * k)
worth_is zero = refl
worth_is (suc k) =
    let more : 8 * suc k ≡ 8 + 8 * k = omega arith in
    ap (λ n. 256 * n) (worth_is k) ∙ sym (ap (λ n. 2 ^ n) more ∙ pow-add 2 8 (8 * k))

parts : (k : ℕ) (xs : List ℕ) → number_of xs ≡ number_of (drop k xs) * worth k + number_of (take k xs)
parts zero xs = omega arith
parts (suc k) [] = omega arith
parts (suc k) (x ∷ xs) = let rest = parts k xs in omega (arith, rest)

below : (k : ℕ) (xs : List ℕ) → AreBytes xs → number_of (take k xs) < worth k
below zero xs h = omega arith
below (suc k) [] h = let rest = below k [] tt in omega (arith, rest)
below (suc k) (x ∷ xs) h = let rest = below k xs h.1 in omega (arith, rest, h.0)

masked : (n k : ℕ) (xs : List ℕ) → AreBytes xs → n ≡ number_of xs → bit_and n (worth k - 1) ≡ number_of (take k xs)
masked n k xs h is =
    ap (λ w. bit_and n (w - 1)) (worth_is k) ∙ and_mask n (8 * k) ∙ ap (λ w. n % w) (sym (worth_is k)) ∙ ap (λ m. m % worth k) (is ∙ parts k xs)
    ∙ mod-mul-add (number_of (drop k xs)) (worth k) (number_of (take k xs)) (below k xs h)

take-take : (j k : ℕ) (xs : List ℕ) → j ≤ k → take j (take k xs) ≡ take j xs
take-take zero k xs h = refl
take-take (suc j) zero xs h = absurd (omega arith)
take-take (suc j) (suc k) [] h = refl
take-take (suc j) (suc k) (x ∷ xs) h = ap (λ l. x ∷ l) (take-take j k xs (omega arith))

-- two words of a text, of which only some bytes are kept
module _ (xs : List ℕ) (bytes : AreBytes xs) (low high : ℕ) (low_is : low ≡ number_of (take 8 xs)) (high_is : high ≡ number_of (take 8 (drop 8 xs))) where
  pub in_low : (k : ℕ) → k ≤ 8 → bit_and low (worth k - 1) + 2 ^ 64 * bit_and high 0 ≡ number_of (take k xs)
  in_low k h =
      let first : bit_and low (worth k - 1) ≡ number_of (take k xs) = masked low k (take 8 xs) (AreBytes-take 8 xs bytes) low_is ∙ ap number_of (take-take k 8 xs h) in
      let none : bit_and high 0 ≡ high % 1 = and_mask high 0 in
      omega (arith, first, none)

  pub in_both : (k : ℕ) → k ≤ 8 → bit_and low (worth 8 - 1) + 2 ^ 64 * bit_and high (worth k - 1) ≡ number_of (take (8 + k) xs)
  in_both k h =
      let rest = drop 8 xs in
      let first : bit_and low (worth 8 - 1) ≡ number_of (take 8 xs) = masked low 8 (take 8 xs) (AreBytes-take 8 xs bytes) low_is ∙ ap number_of (take-take 8 8 xs (omega arith)) in
      let second : bit_and high (worth k - 1) ≡ number_of (take k rest) =
      masked high k (take 8 rest) (AreBytes-take 8 rest (AreBytes-drop 8 xs bytes)) high_is ∙ ap number_of (take-take k 8 rest h) in
      let whole = parts 8 (take (8 + k) xs) in
      let a : number_of (drop 8 (take (8 + k) xs)) ≡ number_of (take k rest) = ap number_of (drop-take 8 k xs) in
      let b : number_of (take 8 (take (8 + k) xs)) ≡ number_of (take 8 xs) = ap number_of (take-take 8 (8 + k) xs (omega arith)) in
      omega (arith, first, second, whole, a, b)

abbrev low_masks : List ℕ
low_masks = 255 ∷ 65535 ∷ 16777215 ∷ 4294967295 ∷ 1099511627775 ∷ 281474976710655 ∷ 72057594037927935 ∷ 18446744073709551615 ∷ 18446744073709551615 ∷ 18446744073709551615 ∷ 18446744073709551615
    ∷ 18446744073709551615 ∷ 18446744073709551615 ∷ 18446744073709551615 ∷ 18446744073709551615 ∷ 18446744073709551615 ∷ []

abbrev high_masks : List ℕ
high_masks = 0 ∷ 0 ∷ 0 ∷ 0 ∷ 0 ∷ 0 ∷ 0 ∷ 0 ∷ 255 ∷ 65535 ∷ 16777215 ∷ 4294967295 ∷ 1099511627775 ∷ 281474976710655 ∷ 72057594037927935 ∷ 18446744073709551615 ∷ []

-- the masks of the two tables
pub masked_at : (xs : List ℕ) (low high line : ℕ) → AreBytes xs → low ≡ number_of (take 8 xs) → high ≡ number_of (take 8 (drop 8 xs)) → line < 16
    → bit_and low (get_or low_masks line 0) + 2 ^ 64 * bit_and high (get_or high_masks line 0) ≡ number_of (take (line + 1) xs)
masked_at xs low high zero h a b s = in_low xs h low high a b 1 (omega arith)
masked_at xs low high (suc zero) h a b s = in_low xs h low high a b 2 (omega arith)
masked_at xs low high (suc (suc zero)) h a b s = in_low xs h low high a b 3 (omega arith)
masked_at xs low high (suc (suc (suc zero))) h a b s = in_low xs h low high a b 4 (omega arith)
masked_at xs low high (suc (suc (suc (suc zero)))) h a b s = in_low xs h low high a b 5 (omega arith)
masked_at xs low high (suc (suc (suc (suc (suc zero))))) h a b s = in_low xs h low high a b 6 (omega arith)
masked_at xs low high (suc (suc (suc (suc (suc (suc zero)))))) h a b s = in_low xs h low high a b 7 (omega arith)
masked_at xs low high (suc (suc (suc (suc (suc (suc (suc zero))))))) h a b s = in_low xs h low high a b 8 (omega arith)
masked_at xs low high (suc (suc (suc (suc (suc (suc (suc (suc zero)))))))) h a b s = in_both xs h low high a b 1 (omega arith)
masked_at xs low high (suc (suc (suc (suc (suc (suc (suc (suc (suc zero))))))))) h a b s = in_both xs h low high a b 2 (omega arith)
masked_at xs low high (suc (suc (suc (suc (suc (suc (suc (suc (suc (suc zero)))))))))) h a b s = in_both xs h low high a b 3 (omega arith)
masked_at xs low high (suc (suc (suc (suc (suc (suc (suc (suc (suc (suc (suc zero))))))))))) h a b s = in_both xs h low high a b 4 (omega arith)
masked_at xs low high (suc (suc (suc (suc (suc (suc (suc (suc (suc (suc (suc (suc zero)))))))))))) h a b s = in_both xs h low high a b 5 (omega arith)
masked_at xs low high (suc (suc (suc (suc (suc (suc (suc (suc (suc (suc (suc (suc (suc zero))))))))))))) h a b s = in_both xs h low high a b 6 (omega arith)
masked_at xs low high (suc (suc (suc (suc (suc (suc (suc (suc (suc (suc (suc (suc (suc (suc zero)))))))))))))) h a b s = in_both xs h low high a b 7 (omega arith)
masked_at xs low high (suc (suc (suc (suc (suc (suc (suc (suc (suc (suc (suc (suc (suc (suc (suc zero))))))))))))))) h a b s = in_both xs h low high a b 8 (omega arith)
masked_at xs low high (suc (suc (suc (suc (suc (suc (suc (suc (suc (suc (suc (suc (suc (suc (suc (suc n)))))))))))))))) h a b s = absurd (omega arith)

-- ---- the number of a line

pub some_number : (a : List ℕ) → 0 < number_of (a ++ 10 ∷ [])
some_number [] = omega arith
some_number (x ∷ a) = let rest = some_number a in omega (arith, rest)

pub same_line : (a b : List ℕ) → AreBytes a → AreBytes b → number_of (a ++ 10 ∷ []) ≡ number_of (b ++ 10 ∷ []) → a ≡ b
same_line [] [] p q h = refl
same_line [] (y ∷ b) p q h = let some = some_number b in absurd (omega (arith, some, h))
same_line (x ∷ a) [] p q h = let some = some_number a in absurd (omega (arith, some, h))
same_line (x ∷ a) (y ∷ b) p q h =
    let first : x ≡ y = omega (arith, p.0, q.0, h) in
    let others : number_of (a ++ 10 ∷ []) ≡ number_of (b ++ 10 ∷ []) = omega (arith, p.0, q.0, h) in
    ap (λ z. z ∷ a) first ∙ ap (λ l. y ∷ l) (same_line a b p.1 q.1 others)
