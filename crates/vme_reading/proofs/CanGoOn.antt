-- What a reader has read can go on.
use Rattle.std.proofs.Common.{◌≡◌, inl, inr, ℕ, List, [], ◌∷◌, ◌++◌, length, Bool, true, false, ltb, ◌==◌, Option, Some, None, option_map, refl, sym, ◌∙◌, ap, arith, append-nil, codes, if◌then◌else◌}
use Rattle.std.proofs.lemmas.Bool.Decides.{nat_tests}
use Rattle.std.proofs.lemmas.Option.{same_Some}
use Rattle.vme_model.specs.declared.signals.Version.{Version}
use Rattle.vme_model.specs.declared.signals.Version.TheVariants.{One}
use Rattle.vme_model.specs.declared.signals.Edge.{Edge}
use Rattle.vme_model.specs.Text.{TextFault, no_header, too_long, cut_off, begin_line, split_lines, behind_header, read_from_header, is_too_long, version_of, unread, read_of}
use Rattle.vme_trace.specs.Reading.{ReaderState, IsPart, HasRead, rest_of, with_edges}
use Rattle.vme_trace.specs.Taking.{place}
use Rattle.vme_trace.proofs.Lines.{end_cut, end_absent, end_present}
use Rattle.vme_reading.specs.Outcomes.{CanGoOn}

-- ---- the first complete line

abbrev first_line : List (List ℕ) × List ℕ → Option (List ℕ)
first_line ([], rest) = None
first_line (l ∷ ls, rest) = Some l

first_begun : (b : ℕ) (s : List (List ℕ) × List ℕ) → first_line (begin_line b s) ≡ option_map (λ l. b ∷ l) (first_line s)
first_begun b ([], rest) = refl
first_begun b (l ∷ ls, rest) = refl

-- a byte before complete lines and a rest
abbrev begun : Bool → ℕ → List (List ℕ) × List ℕ → List (List ℕ) × List ℕ
begun t b s = if t then ([] ∷ s.0, s.1) else begin_line b s

stays_begun : (t : Bool) (b : ℕ) (s more : List (List ℕ) × List ℕ) (l : List ℕ) → ((k : List ℕ) → first_line s ≡ Some k → first_line more ≡ Some k)
    → first_line (begun t b s) ≡ Some l → first_line (begun t b more) ≡ Some l
stays_begun true b s more l go h = h
stays_begun false b ([], rest) more l go h = absurd cc
stays_begun false b (k ∷ ks, rest) more l go h = first_begun b more ∙ ap (option_map (λ l. b ∷ l)) (go k refl) ∙ h

-- it stays the first, whatever follows
first_stays : (bytes more : List ℕ) (l : List ℕ) → first_line (split_lines bytes) ≡ Some l → first_line (split_lines (bytes ++ more)) ≡ Some l
unfolding split_lines
first_stays [] more l h = absurd cc
first_stays (b ∷ bytes) more l h = stays_begun (b == 10) b (split_lines bytes) (split_lines (bytes ++ more)) l (λ k e. first_stays bytes more k e) h

some_begun : (t : Bool) (b : ℕ) (s : List (List ℕ) × List ℕ) → first_line (begun t b s) ≡ None → (c : ℕ) × (cs : List ℕ) × (begun t b s ≡ ([], c ∷ cs))
some_begun true b s h = absurd cc
some_begun false b ([], rest) h = (b, rest, refl)
some_begun false b (l ∷ ls, rest) h = absurd cc

-- bytes without a complete line are a part of one
some_part : (b : ℕ) (bytes : List ℕ) → first_line (split_lines (b ∷ bytes)) ≡ None → (c : ℕ) × (cs : List ℕ) × (split_lines (b ∷ bytes) ≡ ([], c ∷ cs))
unfolding split_lines
some_part b bytes h = some_begun (b == 10) b (split_lines bytes) h

-- ---- what it says of a trace

abbrev named : List ℕ → Option Version
named l = if is_too_long l then None else version_of l

version_line : (a : Bool) (n : ℕ) (v : Option Version) (others : List Edge × Option TextFault)
    → (if a then unread (too_long n) else behind_header v others).version ≡ (if a then None else v)
version_line true n v others = refl
version_line false n None others = refl
version_line false n (Some v) others = refl

version_first : (n : ℕ) (s : List (List ℕ) × List ℕ) (l : List ℕ) → first_line s ≡ Some l → (read_from_header n s.0 s.1).version ≡ named l
version_first n ([], rest) l h = absurd cc
version_first n (k ∷ ks, rest) l h = version_line (is_too_long k) n (version_of k) _ ∙ ap named (same_Some k l h)

some_bytes : (c : ℕ) (cs : List ℕ) → ltb 0 (length (c ∷ cs)) ≡ true
some_bytes c cs = grind (arith, nat_tests)

no_part : (a b : Bool) (n : ℕ) → b ≡ true → (if a then unread (too_long n) else (if b then unread cut_off else unread no_header)).fault ≡ Some no_header → ⊥
no_part true b n e h = cc
no_part false true n e h = cc
no_part false false n e h = cc

part_fault : (n : ℕ) (s : List (List ℕ) × List ℕ) (c : ℕ) (cs : List ℕ) → s ≡ ([], c ∷ cs) → (read_from_header n s.0 s.1).fault ≡ Some no_header → ⊥
part_fault n s c cs is h = no_part (is_too_long (c ∷ cs)) (ltb 0 (length (c ∷ cs))) n (some_bytes c cs) (rw is at h)

-- ---- a reader that stands before the header line, and keeps no byte, has read none

header_next : (n : ℕ) → (rest_of None (place n []) (codes "vme 1\n")).version ≡ Some One
unfolding split_lines
header_next n = refl

module _ (n : ℕ) (b : ℕ) (bytes : List ℕ) (es : List Edge) (others : (more : List ℕ) → read_of ((b ∷ bytes) ++ more) ≡ with_edges es (rest_of None (place n []) more)) where
  whole : read_of (b ∷ bytes) ≡ with_edges es (rest_of None (place n []) [])
  whole = ap read_of (sym (append-nil (b ∷ bytes))) ∙ others []

  fault_here : (read_of (b ∷ bytes)).fault ≡ Some no_header
  fault_here = ap (λ r. r.fault) whole ∙ ap (λ r. r.fault) (end_absent None n refl)

  unknown_here : (read_of (b ∷ bytes)).version ≡ None
  unknown_here = ap (λ r. r.version) whole ∙ ap (λ r. r.version) (end_absent None n refl)

  known_next : (read_of ((b ∷ bytes) ++ codes "vme 1\n")).version ≡ Some One
  known_next = ap (λ r. r.version) (others (codes "vme 1\n")) ∙ header_next n

  never : (o : Option (List ℕ)) → first_line (split_lines (b ∷ bytes)) ≡ o → ⊥
  unfolding read_of
  never None e = let part = some_part b bytes e in part_fault 1 (split_lines (b ∷ bytes)) part.0 part.1 part.2 fault_here
  never (Some l) e =
      let here : named l ≡ None = sym (version_first 1 (split_lines (b ∷ bytes)) l e) ∙ unknown_here in
      let next : named l ≡ Some One = sym (version_first 1 (split_lines ((b ∷ bytes) ++ codes "vme 1\n")) l (first_stays (b ∷ bytes) (codes "vme 1\n") l e)) ∙ known_next in
      cc

none_read : (n : ℕ) (bytes : List ℕ) (es : List Edge) → ((more : List ℕ) → read_of (bytes ++ more) ≡ with_edges es (rest_of None (place n []) more)) → bytes ≡ []
none_read n [] es others = refl
none_read n (b ∷ bytes) es others = absurd (never n b bytes es others (first_line (split_lines (b ∷ bytes))) refl)

from_here : (v : Option Version) (n : ℕ) (part bytes : List ℕ) (es : List Edge) → IsPart part
    → ((more : List ℕ) → read_of (bytes ++ more) ≡ with_edges es (rest_of v (place n part) more)) → CanGoOn bytes
from_here v n (b ∷ part) bytes es h others =
    inr (inl (ap (λ l. (read_of l).fault) (sym (append-nil bytes)) ∙ ap (λ r. r.fault) (others []) ∙ ap (λ r. r.fault) (end_cut v n (b ∷ part) h (omega arith))))
from_here (Some v) n [] bytes es h others =
    inl (ap (λ l. (read_of l).fault) (sym (append-nil bytes)) ∙ ap (λ r. r.fault) (others []) ∙ end_present (Some v) n refl)
from_here None n [] bytes es h others = inr (inr (none_read n bytes es others))

pub can_go_on : (r : ReaderState) (bytes : List ℕ) (es : List Edge) → HasRead r bytes es → CanGoOn bytes
can_go_on r bytes es h = from_here r.version h.place.line h.place.part bytes es h.part h.others
