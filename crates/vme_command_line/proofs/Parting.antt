-- A text that names seeds can be split at two dots in only one way.
use Rattle.std.proofs.Common.{◌≡◌, ◌∙◌, ℕ, ◌<◌, ◌≤◌, ◌+◌, ◌-◌, ◌++◌, ◌==◌, [], ◌∷◌, Bool, true, false, None, codes, cond, length, take, drop, slice_index, sym, ap, subst, arith}
use Rattle.std.proofs.lemmas.List.{append_assoc, drop-append-le, length-append, length-drop, take-append-drop}
use Rattle.std.proofs.Math.Seq.{drop-append-add, drop-append_seam, take-append_seam}
use Rattle.std.specs.Str.Parse.{AllDigits, without_leading_plus}
use Rattle.std.specs.Str.Pattern.{FindsText, LacksTextAt, SplitsAroundMatch}
use Rattle.clap.specs.Words.{Text}
use Rattle.vme_command_line.specs.Asked.{AreSeeds, NamesNoSeeds}
use Rattle.vme_command_line.specs.Numbers.{IsSeed}

abbrev dots : Text
dots = codes ".."

-- the text is split at its first two dots
abbrev pub IsParted : Text → Text → Text → Type 0
IsParted named begins ends = SplitsAroundMatch (FindsText dots) named begins ends

-- a dot is not a digit
digits_only : (x y : Text) → AllDigits 10 (x ++ 46 ∷ y) → ⊥
digits_only [] y digits = let dot : 36 < 10 = digits.0 in omega arith
digits_only (c ∷ x) y digits = digits_only x y digits.1

no_dot : (x y : Text) → AllDigits 10 (without_leading_plus (x ++ 46 ∷ y)) → ⊥
no_dot [] y digits = digits_only [] y digits
no_dot (c ∷ x) y digits = go (slice_index (c ∷ (x ++ 46 ∷ y)) 0 == 43) digits
  where
    go : (p : Bool) → AllDigits 10 (drop (cond p 1 0) (c ∷ (x ++ 46 ∷ y))) → ⊥
    go true d = digits_only x y d
    go false d = digits_only (c ∷ x) y d

front_of : Text → ℕ
front_of [] = 0
front_of (c ∷ cs) = c

begins_so : (d rest tail : Text) → 0 < length d → d ++ rest ≡ 46 ∷ tail → (y : Text) × (d ≡ 46 ∷ y)
unfolding front_of
begins_so [] rest tail some e = absurd (let none : 0 < 0 = some in omega arith)
begins_so (c ∷ y) rest tail some e = (y, ap (λ h. h ∷ y) (ap front_of e))

not_after : (a b : Text) (i j : ℕ) → AllDigits 10 (without_leading_plus a) → drop i (a ++ (dots ++ b)) ≡ dots ++ drop j (a ++ (dots ++ b)) → i < length a → ⊥
not_after a b i j digits is less =
    let before : i ≤ length a = omega arith in
    let left : length (drop i a) ≡ length a - i = length-drop i a in
    let some : 0 < length (drop i a) = omega arith in
    let begun = begins_so (drop i a) (dots ++ b) (46 ∷ drop j (a ++ (dots ++ b))) some (sym (drop-append-le i a (dots ++ b) before) ∙ is) in
    let parted : a ≡ take i a ++ 46 ∷ begun.0 = sym (take-append-drop i a) ∙ ap (λ z. take i a ++ z) begun.1 in
    no_dot (take i a) begun.0 (subst (λ z. AllDigits 10 (without_leading_plus z)) parted digits)

same_length : (a b : Text) (i j : ℕ) → AllDigits 10 (without_leading_plus a) → ((k : ℕ) → k < i → LacksTextAt dots (a ++ (dots ++ b)) k)
    → drop i (a ++ (dots ++ b)) ≡ dots ++ drop j (a ++ (dots ++ b)) → length a ≡ i
same_length a b i j digits lacks is =
    let long : ¬ (i < length a) = not_after a b i j digits is in
    let short : ¬ (length a < i) = λ less. lacks (length a) less b (drop-append_seam a (dots ++ b)) in
    omega arith

-- if a numeral stands before two dots, these are the first two dots
apart : (begins ends a b : Text) → AllDigits 10 (without_leading_plus a) → IsParted (a ++ (dots ++ b)) begins ends → (begins ≡ a) × (ends ≡ b)
apart begins ends a b digits s =
    let at : length a ≡ s.0 = same_length a b s.0 s.1 digits s.2.0 s.2.1.split in (
      s.3 ∙ ap (λ n. take n (a ++ (dots ++ b))) (sym at) ∙ take-append_seam a (dots ++ b),
      s.4 ∙ ap (λ n. drop n (a ++ (dots ++ b))) (s.2.1.ends ∙ ap (λ n. n + length dots) (sym at)) ∙ drop-append-add a (dots ++ b) (length dots) ∙ drop-append_seam dots b,
    )

parts : (named : Text) (first last : ℕ) (h : AreSeeds named first last) → named ≡ h.0 ++ (dots ++ h.1)
parts named first last h = h.2 ∙ append_assoc h.0 dots h.1

only : (named begins ends : Text) (first last : ℕ) → IsParted named begins ends → AreSeeds named first last
    → IsSeed begins first × IsSeed ends last × (first ≤ last)
only named begins ends first last s h =
    let same = apart begins ends h.0 h.1 h.3.0.1 (subst (λ n. IsParted n begins ends) (parts named first last h) s) in
    (subst (λ z. IsSeed z first) (sym same.0) h.3, subst (λ z. IsSeed z last) (sym same.1) h.4, h.5)

pub unparted : (named : Text) → FindsText dots named None → NamesNoSeeds named
unparted named lacks first last h =
    let counts : length named ≡ length h.0 + length (dots ++ h.1) = ap length (parts named first last h) ∙ length-append h.0 (dots ++ h.1) in
    let within : length h.0 ≤ length named = omega arith in
    lacks (length h.0) within h.1 (ap (drop (length h.0)) (parts named first last h) ∙ drop-append_seam h.0 (dots ++ h.1))

pub no_first : (named begins ends : Text) → IsParted named begins ends → ((n : ℕ) → ¬ (IsSeed begins n)) → NamesNoSeeds named
no_first named begins ends s none first last h = none first (only named begins ends first last s h).0

pub no_last : (named begins ends : Text) → IsParted named begins ends → ((n : ℕ) → ¬ (IsSeed ends n)) → NamesNoSeeds named
no_last named begins ends s none first last h = none last (only named begins ends first last s h).1

pub turned : (named begins ends : Text) (m n : ℕ) → IsParted named begins ends → IsSeed begins m → IsSeed ends n → n < m → NamesNoSeeds named
turned named begins ends m n s is_m is_n below first last h =
    let seeds = only named begins ends first last s h in
    let m_is : m ≡ first = sym is_m.1 ∙ seeds.0.1 in
    let n_is : n ≡ last = sym is_n.1 ∙ seeds.1.1 in
    let above : first ≤ last = seeds.2 in
    omega arith
