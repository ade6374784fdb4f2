-- A reader of captures, line by line.
use Rattle.std.proofs.Common.{◌≡◌, ◌<◌, ◌≤◌, ◌++◌, ◌∷◌, [], ℕ, List, Option, Some, None, Ok, Err, length, reverse, refl, sym, ◌∙◌, ap, arith, append_assoc, append-nil, length-append}
use Rattle.std.proofs.lemmas.List.{reverse-append}
use Rattle.vme_model.specs.declared.signals.Version.{Version}
use Rattle.vme_model.specs.Plan.{Plan}
use Rattle.vme_model.specs.Text.{no_header, too_long, cut_off, split_lines, next_number, version_of}
use Rattle.vme_trace.specs.Reading.{IsOneLine, IsPart}
use Rattle.vme_trace.proofs.Lines.{head_of, head_long, over, some_bytes, split_line, split_rest, within, IsOneLine-append}
use Rattle.vme_captures.specs.declared.signals.Entry.{Entry}
use Rattle.vme_captures.specs.declared.CaptureFault.{CaptureFault}
use Rattle.vme_captures.specs.Reading.{Reading, before_others, behind_header, line_says, read_entries, text_fault}
use Rattle.vme_captures.specs.Feeding.{after, rest_at}

pub one_more : (e : Entry) (said : List Entry) → reverse (e ∷ said) ≡ reverse said ++ e ∷ []
one_more e said = reverse-append (e ∷ []) said

-- what was said, and no more but a fault
pub record EndsAfter (r : Reading) (said : List Entry) (f : Option CaptureFault) : Type 0 where
  pub entries : r.entries ≡ reverse said
  pub fault : r.fault ≡ f

-- what a whole line behind the header says, before other lines
pub line_step : (p : Plan) (v : Version) (n : ℕ) (said : List Entry) (part more : List ℕ) → IsPart part
    → rest_at p (Some v) n said (split_lines (part ++ 10 ∷ more))
    ≡ behind_header (Some v) (after said (before_others (line_says p n said part)
    (λ e. read_entries p (next_number n) (e ∷ said) (split_lines more).0 (split_lines more).1)))
unfolding read_entries
line_step p v n said part more h = rw (split_line part more h.one_line) refl

-- a line that says something
pub said_step : (p : Plan) (v : Version) (n : ℕ) (said : List Entry) (e : Entry) (more : List (List ℕ) × List ℕ)
    → behind_header (Some v) (after said (before_others (Ok e) (λ d. read_entries p (next_number n) (d ∷ said) more.0 more.1)))
    ≡ rest_at p (Some v) (next_number n) (e ∷ said) more
said_step p v n said e more =
    let others : List Entry × Option CaptureFault = read_entries p (next_number n) (e ∷ said) more.0 more.1 in
    ap (λ (l : List Entry). behind_header (Some v) (l, others.1))
    (sym (ap (λ (l : List Entry). l ++ others.0) (one_more e said) ∙ append_assoc (reverse said) (e ∷ []) others.0))

-- a fault behind what was said
pub fault_step : (v : Version) (said : List Entry) (f : CaptureFault) (others : Entry → List Entry × Option CaptureFault)
    → EndsAfter (behind_header (Some v) (after said (before_others (Err f) others))) said (Some f)
fault_step v said f others = record { entries = append-nil (reverse said); fault = refl }

-- the header line
pub header_step : (p : Plan) (v : Version) (n : ℕ) (said : List Entry) (part more : List ℕ) → IsPart part → version_of part ≡ Some v
    → rest_at p None n said (split_lines (part ++ 10 ∷ more)) ≡ rest_at p (Some v) 2 [] (split_lines more)
header_step p v n said part more h is = rw (split_line part more h.one_line, within part h.short, is) refl

pub header_missed : (p : Plan) (n : ℕ) (said : List Entry) (part more : List ℕ) → IsPart part → version_of part ≡ None
    → EndsAfter (rest_at p None n said (split_lines (part ++ 10 ∷ more))) [] (Some (text_fault no_header))
header_missed p n said part more h is =
    rw (split_line part more h.one_line, within part h.short, is) (record { entries = refl; fault = refl })

long_at : (p : Plan) (v : Option Version) (n : ℕ) (said : List Entry) (s : List (List ℕ) × List ℕ)
    → (v ≡ None → (n ≡ 1) × (said ≡ [])) → 64 < length (head_of s) → EndsAfter (rest_at p v n said s) said (Some (text_fault (too_long n)))
unfolding read_entries
long_at p None n said ([], rest) first h = rw (over rest h, (first refl).0, (first refl).1) (record { entries = refl; fault = refl })
long_at p None n said (l ∷ ls, rest) first h = rw (over l h, (first refl).0, (first refl).1) (record { entries = refl; fault = refl })
long_at p (Some v) n said ([], rest) first h = rw (over rest h) (record { entries = append-nil (reverse said); fault = refl })
long_at p (Some v) n said (l ∷ ls, rest) first h = rw (over l h) (record { entries = append-nil (reverse said); fault = refl })

-- a line of over 64 bytes
pub long_step : (p : Plan) (v : Option Version) (n : ℕ) (said : List Entry) (part more : List ℕ) (b : ℕ)
    → (v ≡ None → (n ≡ 1) × (said ≡ [])) → IsOneLine part → (b ≡ 10 → ⊥) → 64 ≤ length part
    → EndsAfter (rest_at p v n said (split_lines (part ++ b ∷ more))) said (Some (text_fault (too_long n)))
long_step p v n said part more b first one other full =
    let line : IsOneLine (part ++ b ∷ []) = IsOneLine-append part (b ∷ []) one (other, tt) in
    let long : 64 < length (part ++ b ∷ []) = rw (length-append part (b ∷ [])) (omega arith) in
    let head : length (part ++ b ∷ []) ≤ length (head_of (split_lines ((part ++ b ∷ []) ++ more))) = head_long (part ++ b ∷ []) more line in
    long_at p v n said (split_lines (part ++ b ∷ more)) first (rw (← append_assoc part (b ∷ []) more) (omega arith))

-- the end of the text
pub end_cut : (p : Plan) (v : Option Version) (n : ℕ) (said : List Entry) (part : List ℕ)
    → (v ≡ None → (n ≡ 1) × (said ≡ [])) → IsPart part → 0 < length part
    → EndsAfter (rest_at p v n said (split_lines (part ++ []))) said (Some (text_fault cut_off))
unfolding read_entries
end_cut p v n said [] first h some = absurd (omega arith)
end_cut p None n said (b ∷ part) first h some =
    rw (append-nil (b ∷ part), split_rest (b ∷ part) h.one_line, within (b ∷ part) h.short, some_bytes b part, (first refl).1)
    (record { entries = refl; fault = refl })
end_cut p (Some v) n said (b ∷ part) first h some =
    rw (append-nil (b ∷ part), split_rest (b ∷ part) h.one_line, within (b ∷ part) h.short, some_bytes b part)
    (record { entries = append-nil (reverse said); fault = refl })

pub end_absent : (p : Plan) (n : ℕ) → EndsAfter (rest_at p None n [] (split_lines [])) [] (Some (text_fault no_header))
unfolding split_lines
end_absent p n = record { entries = refl; fault = refl }

pub end_whole : (p : Plan) (v : Version) (n : ℕ) (said : List Entry) → EndsAfter (rest_at p (Some v) n said (split_lines [])) said None
unfolding split_lines read_entries
end_whole p v n said = record { entries = append-nil (reverse said); fault = refl }
