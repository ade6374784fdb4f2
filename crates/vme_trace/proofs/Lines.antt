-- Reading, line by line.
use Rattle.std.proofs.Common.{◌≡◌, ◌≢◌, subst, ℕ, suc, zero, ◌+◌, ◌-◌, ◌<◌, ◌≤◌, Bool, true, false, eqb, ltb, cond, List, [], ◌∷◌, ◌++◌, length, take, drop, get_or, Option, Some, None, is_some, refl, sym, ◌∙◌, ap, arith, append_assoc, append-nil, add-one}
use Rattle.std.proofs.lemmas.Bool.Decides.{nat_tests}
use Rattle.vme_model.specs.declared.signals.Version.{Version}
use Rattle.vme_model.specs.Text.{TextFault, no_header, too_long, cut_off, Reading, begin_line, split_lines, is_too_long, next_number, before_others, read_lines, behind_header, read_from_header, version_of, edge_of}
use Rattle.vme_trace.specs.Reading.{IsOneLine, IsPart, rest_of}
use Rattle.vme_trace.specs.Taking.{place}

pub IsOneLine-append : (a b : List ℕ) → IsOneLine a → IsOneLine b → IsOneLine (a ++ b)
IsOneLine-append [] b p q = q
IsOneLine-append (x ∷ a) b p q = (p.0, IsOneLine-append a b p.1 q)

pub IsOneLine-front : (xs : List ℕ) (n : ℕ) → ((k : ℕ) → k < n → get_or xs k 0 ≢ 10) → IsOneLine (take n xs)
IsOneLine-front [] zero h = tt
IsOneLine-front [] (suc n) h = tt
IsOneLine-front (x ∷ xs) zero h = tt
IsOneLine-front (x ∷ xs) (suc n) h = (h 0 (omega arith), IsOneLine-front xs n (λ k lt. h (suc k) (omega arith)))

no_feed : (b : ℕ) → b ≢ 10 → eqb b 10 ≡ false
no_feed b h = grind (arith, nat_tests)

pub split_rest : (l : List ℕ) → IsOneLine l → split_lines l ≡ ([], l)
unfolding split_lines
split_rest [] h = refl
split_rest (b ∷ l) h = rw (no_feed b h.0, split_rest l h.1) refl

pub split_line : (l more : List ℕ) → IsOneLine l → split_lines (l ++ 10 ∷ more) ≡ (l ∷ (split_lines more).0, (split_lines more).1)
unfolding split_lines
split_line [] more h = refl
split_line (b ∷ l) more h = rw (no_feed b h.0, split_line l more h.1) refl

-- what stands before the first line feed of some bytes
abbrev pub head_of : List (List ℕ) × List ℕ → List ℕ
head_of ([], rest) = rest
head_of (l ∷ ls, rest) = l

head_begun : (b : ℕ) (s : List (List ℕ) × List ℕ) → head_of (begin_line b s) ≡ b ∷ head_of s
head_begun b ([], rest) = refl
head_begun b (l ∷ ls, rest) = refl

pub head_long : (x more : List ℕ) → IsOneLine x → length x ≤ length (head_of (split_lines (x ++ more)))
unfolding split_lines
head_long [] more one = omega arith
head_long (b ∷ x) more one =
    rw (no_feed b one.0, head_begun b (split_lines (x ++ more))) (let h = head_long x more one.1 in omega arith)

pub over : (l : List ℕ) → 64 < length l → is_too_long l ≡ true
over l h = grind (arith, nat_tests)

pub within : (l : List ℕ) → length l ≤ 64 → is_too_long l ≡ false
within l h = grind (arith, nat_tests)

-- a trace of this version with this fault alone
abbrev pub faulty : Option Version → TextFault → Reading
faulty v t = record { version = v; edges = []; fault = Some t }

abbrev read_split : Option Version → ℕ → List (List ℕ) × List ℕ → Reading
read_split None n s = read_from_header n s.0 s.1
read_split (Some v) n s = behind_header (Some v) (read_lines n s.0 s.1)

long_lines : (v : Option Version) (n : ℕ) (s : List (List ℕ) × List ℕ) → 64 < length (head_of s) → read_split v n s ≡ faulty v (too_long n)
unfolding read_lines
long_lines None n ([], rest) h = rw (over rest h) refl
long_lines None n (l ∷ ls, rest) h = rw (over l h) refl
long_lines (Some v) n ([], rest) h = rw (over rest h) refl
long_lines (Some v) n (l ∷ ls, rest) h = rw (over l h) refl

pub rest_at : (v : Option Version) (n : ℕ) (part bytes : List ℕ) → rest_of v (place n part) bytes ≡ read_split v n (split_lines (part ++ bytes))
rest_at None n part bytes = refl
rest_at (Some v) n part bytes = refl

-- a part of a place stands before the bytes
pub rest_part : (v : Option Version) (n : ℕ) (part bytes : List ℕ) → rest_of v (place n part) bytes ≡ rest_of v (place n []) (part ++ bytes)
rest_part None n part bytes = refl
rest_part (Some v) n part bytes = refl

-- a line of over 64 bytes, whether or not it ends
pub long_front : (v : Option Version) (n : ℕ) (x more : List ℕ) → IsOneLine x → 64 < length x → rest_of v (place n []) (x ++ more) ≡ faulty v (too_long n)
long_front v n x more one h =
    rest_at v n [] (x ++ more) ∙ long_lines v n (split_lines (x ++ more)) (let k = head_long x more one in omega arith)

-- what a whole line says, before other lines
abbrev pub line_read : Option Version → ℕ → List ℕ → List (List ℕ) × List ℕ → Reading
line_read None n l s = behind_header (version_of l) (read_lines (next_number n) s.0 s.1)
line_read (Some v) n l s = behind_header (Some v) (before_others n (edge_of l) (read_lines (next_number n) s.0 s.1))

pub whole_line : (v : Option Version) (n : ℕ) (l more : List ℕ) → IsOneLine l → length l ≤ 64
    → rest_of v (place n []) ((l ++ 10 ∷ []) ++ more) ≡ line_read v n l (split_lines more)
unfolding read_lines
whole_line None n l more one h = rw (append_assoc l (10 ∷ []) more, split_line l more one, within l h) refl
whole_line (Some v) n l more one h = rw (append_assoc l (10 ∷ []) more, split_line l more one, within l h) refl

-- the end of the input
pub some_bytes : (b : ℕ) (part : List ℕ) → ltb 0 (length (b ∷ part)) ≡ true
some_bytes b part = grind (arith, nat_tests)

at_end : (v : Option Version) (n : ℕ) (part : List ℕ) → IsPart part → rest_of v (place n part) [] ≡ read_split v n ([], part)
at_end v n part h = rest_at v n part [] ∙ ap (read_split v n) (rw (append-nil part) (split_rest part h.one_line))

pub end_cut : (v : Option Version) (n : ℕ) (part : List ℕ) → IsPart part → 0 < length part → rest_of v (place n part) [] ≡ faulty v cut_off
unfolding read_lines
end_cut v n [] h some = absurd (omega arith)
end_cut None n (b ∷ part) h some = at_end None n (b ∷ part) h ∙ rw (within (b ∷ part) h.short, some_bytes b part) refl
end_cut (Some v) n (b ∷ part) h some = at_end (Some v) n (b ∷ part) h ∙ rw (within (b ∷ part) h.short, some_bytes b part) refl

end_none : (n : ℕ) → rest_of None (place n []) [] ≡ faulty None no_header
unfolding split_lines
end_none n = refl

pub end_whole : (v : Version) (n : ℕ) → rest_of (Some v) (place n []) [] ≡ record { version = Some v; edges = []; fault = None }
unfolding split_lines read_lines
end_whole v n = refl

pub true_false : true ≡ false → ⊥
true_false h = let P : Bool → Type 0 = λ b. cond b (Unit {0}) ⊥ in subst P h tt

pub end_absent : (v : Option Version) (n : ℕ) → is_some v ≡ false → rest_of v (place n []) [] ≡ faulty v no_header
end_absent None n h = end_none n
end_absent (Some v) n h = absurd (true_false h)

pub end_present : (v : Option Version) (n : ℕ) → is_some v ≡ true → (rest_of v (place n []) []).fault ≡ None
end_present None n h = absurd (true_false (sym h))
end_present (Some v) n h = ap (λ r. r.fault) (end_whole v n)

-- with nothing after it, a place has its version and no edge
pub settled : (v : Option Version) (n : ℕ) (part : List ℕ) → IsPart part → ((rest_of v (place n part) []).version ≡ v) × ((rest_of v (place n part) []).edges ≡ [])
settled None n [] h = let e = end_none n in (ap (λ r. r.version) e, ap (λ r. r.edges) e)
settled (Some v) n [] h = let e = end_whole v n in (ap (λ r. r.version) e, ap (λ r. r.edges) e)
settled v n (b ∷ part) h =
    let e = end_cut v n (b ∷ part) h (omega arith) in (ap (λ r. r.version) e, ap (λ r. r.edges) e)

take_all : (xs : List ℕ) → take (length xs) xs ≡ xs
take_all [] = refl
take_all (x ∷ xs) = ap (λ l. x ∷ l) (take_all xs)

pub IsOneLine-whole : (xs : List ℕ) (e : ℕ) → length xs ≤ e → ((k : ℕ) → k < e → get_or xs k 0 ≢ 10) → IsOneLine xs
IsOneLine-whole xs e h clean =
    let P : List ℕ → Type 0 = IsOneLine in
    subst P (take_all xs) (IsOneLine-front xs (length xs) (λ k lt. clean k (omega arith)))

cut_behind : (xs : List ℕ) (e : ℕ) → e < length xs → get_or xs e 0 ≡ 10 → xs ≡ (take e xs ++ 10 ∷ []) ++ drop (suc e) xs
cut_behind [] e h is = absurd (omega arith)
cut_behind (x ∷ xs) zero h is = rw is refl
cut_behind (x ∷ xs) (suc e) h is = ap (λ l. x ∷ l) (cut_behind xs e (omega arith) is)

-- the first line, its line feed and the rest
pub cut : (xs : List ℕ) (e : ℕ) → e < length xs → get_or xs e 0 ≡ 10 → xs ≡ (take e xs ++ 10 ∷ []) ++ drop (e + 1) xs
cut xs e h is = rw (add-one e) (cut_behind xs e h is)

-- nothing stands after the end
pub nothing_behind : (xs : List ℕ) (e : ℕ) → length xs ≤ e → xs ≡ xs ++ take (length xs - e) (drop e xs)
nothing_behind xs e h = let none : length xs - e ≡ 0 = omega arith in rw none (sym (append-nil xs))

pub no_bytes : (xs : List ℕ) → length xs ≡ 0 → xs ≡ []
no_bytes [] h = refl
no_bytes (x ∷ xs) h = absurd (omega arith)
