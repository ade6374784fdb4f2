-- A reader of moments, line by line and byte by byte.
use Rattle.std.proofs.Common.{◌≡◌, ◌<◌, ◌≤◌, ◌++◌, ◌∷◌, [], ℕ, true, false, List, Option, Some, None, Ok, Err, length, refl, sym, ap, arith, append_assoc, append-nil, length-append, ltb}
use Rattle.std.proofs.lemmas.Bool.Decides.{nat_tests}
use Rattle.vme_model.specs.declared.signals.Version.{Version}
use Rattle.vme_model.specs.Text.{no_header, too_long, cut_off, split_lines, next_number, version_of}
use Rattle.vme_trace.specs.Reading.{IsOneLine, IsPart}
use Rattle.vme_trace.proofs.Lines.{head_of, head_long, over, some_bytes, split_line, split_rest, within, IsOneLine-append}
use Rattle.vme_moments.specs.declared.Seen.{Seen}
use Rattle.vme_moments.specs.Moments.{Said, of_trace, too_many, before_others, behind_header, line_says, read_seen, seen_limit}
use Rattle.vme_moments.specs.Moments as said
use Rattle.vme_moments.specs.Taking.{after, rest_at}

-- what a whole line behind the header says, before other lines
pub line_step : (v : Version) (n : ℕ) (last : Option ℕ) (seen : List Seen) (part more : List ℕ)
    → IsPart part
    → rest_at (Some v) n last seen (split_lines (part ++ 10 ∷ more))
    ≡ behind_header (Some v) (after seen (before_others (line_says n last part)
    (λ m. read_seen (next_number n) m (split_lines more).0 (split_lines more).1)))
unfolding read_seen
line_step v n last seen part more h = rw (split_line part more h.one_line) refl

-- a line that says something
pub said_step : (v : Version) (n : ℕ) (seen : List Seen) (s : Said) (more : List (List ℕ) × List ℕ)
    → behind_header (Some v) (after seen (before_others (Ok s)
    (λ m. read_seen (next_number n) m more.0 more.1)))
    ≡ rest_at (Some v) (next_number n) s.last (seen ++ s.seen) more
said_step v n seen s more =
    let others : List Seen × Option said.MomentsFault =
    read_seen (next_number n) s.last more.0 more.1 in
    ap (λ l. behind_header (Some v) (l, others.1)) (sym (append_assoc seen s.seen others.0))

few_test : (k : ℕ) → k ≤ seen_limit → ltb seen_limit k ≡ false
few_test k h = grind (arith, nat_tests)

many_test : (k : ℕ) → seen_limit < k → ltb seen_limit k ≡ true
many_test k h = grind (arith, nat_tests)

-- a fault behind what was seen
pub fault_step : (v : Version) (seen : List Seen) (f : said.MomentsFault) → length seen ≤ seen_limit
    → (behind_header (Some v) (after seen (before_others (Err f) (λ m. ([], None))))).fault ≡ Some f
fault_step v seen f few = rw (append-nil seen, few_test (length seen) few) refl

-- one edge too many
pub many_step : (v : Version) (seen : List Seen) (s : Said)
    (others : Option ℕ → List Seen × Option said.MomentsFault)
    → seen_limit ≤ length seen → 0 < length s.seen
    → (behind_header (Some v) (after seen (before_others (Ok s) others))).fault ≡ Some too_many
many_step v seen s others full some =
    let long : seen_limit < length (seen ++ (s.seen ++ (others s.last).0)) =
    rw (length-append seen (s.seen ++ (others s.last).0), length-append s.seen (others s.last).0)
    (omega arith) in
    rw (many_test (length (seen ++ (s.seen ++ (others s.last).0))) long) refl

-- the header line
pub header_step : (v : Version) (n : ℕ) (last : Option ℕ) (seen : List Seen) (part more : List ℕ)
    → IsPart part → version_of part ≡ Some v
    → rest_at None n last seen (split_lines (part ++ 10 ∷ more))
    ≡ rest_at (Some v) 2 None [] (split_lines more)
header_step v n last seen part more h is =
    rw (split_line part more h.one_line, within part h.short, is) refl

pub header_missed : (n : ℕ) (last : Option ℕ) (seen : List Seen) (part more : List ℕ)
    → IsPart part → version_of part ≡ None
    → (rest_at None n last seen (split_lines (part ++ 10 ∷ more))).fault ≡ Some (of_trace no_header)
header_missed n last seen part more h is =
    rw (split_line part more h.one_line, within part h.short, is) refl

long_at : (v : Option Version) (n : ℕ) (last : Option ℕ) (seen : List Seen)
    (s : List (List ℕ) × List ℕ) → length seen ≤ seen_limit → (v ≡ None → n ≡ 1)
    → 64 < length (head_of s) → (rest_at v n last seen s).fault ≡ Some (of_trace (too_long n))
unfolding read_seen
long_at None n last seen ([], rest) few first h = rw (over rest h, first refl) refl
long_at None n last seen (l ∷ ls, rest) few first h = rw (over l h, first refl) refl
long_at (Some v) n last seen ([], rest) few first h =
    rw (over rest h, append-nil seen, few_test (length seen) few) refl
long_at (Some v) n last seen (l ∷ ls, rest) few first h =
    rw (over l h, append-nil seen, few_test (length seen) few) refl

-- a line of over 64 bytes
pub long_step : (v : Option Version) (n : ℕ) (last : Option ℕ) (seen : List Seen)
    (part more : List ℕ) (b : ℕ) → length seen ≤ seen_limit → (v ≡ None → n ≡ 1) → IsOneLine part
    → (b ≡ 10 → ⊥) → 64 ≤ length part
    → (rest_at v n last seen (split_lines (part ++ b ∷ more))).fault ≡ Some (of_trace (too_long n))
long_step v n last seen part more b few first one other full =
    let line : IsOneLine (part ++ b ∷ []) = IsOneLine-append part (b ∷ []) one (other, tt) in
    let long : 64 < length (part ++ b ∷ []) =
    rw (length-append part (b ∷ [])) (omega arith) in
    let head : length (part ++ b ∷ []) ≤ length (head_of (split_lines ((part ++ b ∷ []) ++ more))) =
    head_long (part ++ b ∷ []) more line in
    long_at v n last seen (split_lines (part ++ b ∷ more)) few first
    (rw (← append_assoc part (b ∷ []) more) (omega arith))

-- the end of the text
pub end_cut : (v : Option Version) (n : ℕ) (last : Option ℕ) (seen : List Seen) (part : List ℕ)
    → length seen ≤ seen_limit → IsPart part → 0 < length part
    → (rest_at v n last seen (split_lines (part ++ []))).fault ≡ Some (of_trace cut_off)
unfolding read_seen
end_cut v n last seen [] few h some = absurd (omega arith)
end_cut None n last seen (b ∷ part) few h some =
    rw (append-nil (b ∷ part), split_rest (b ∷ part) h.one_line, within (b ∷ part) h.short, some_bytes b part) refl
end_cut (Some v) n last seen (b ∷ part) few h some =
    rw (
      append-nil (b ∷ part),
      split_rest (b ∷ part) h.one_line,
      within (b ∷ part) h.short,
      some_bytes b part,
      append-nil seen,
      few_test (length seen) few,
    ) refl

pub end_absent : (n : ℕ) (last : Option ℕ) (seen : List Seen)
    → (rest_at None n last seen (split_lines [])).fault ≡ Some (of_trace no_header)
unfolding split_lines
end_absent n last seen = refl

pub end_whole : (v : Version) (n : ℕ) (last : Option ℕ) (seen : List Seen) → length seen ≤ seen_limit
    → rest_at (Some v) n last seen (split_lines [])
    ≡ record { version = Some v; seen = seen; fault = None }
unfolding split_lines read_seen
end_whole v n last seen few = rw (append-nil seen, few_test (length seen) few) refl
