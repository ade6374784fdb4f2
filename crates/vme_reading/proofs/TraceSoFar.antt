-- What the edges and the version of a trace are, as more of it is read.
use Rattle.std.proofs.Common.{◌≡◌, ◌≢◌, ℕ, ◌≤◌, List, [], ◌∷◌, ◌++◌, length, Bool, true, false, Option, Some, None, refl, sym, ◌∙◌, ap, arith, if◌then◌else◌, nat_lt, ◌==◌}
use Rattle.vme_model.specs.declared.signals.Version.{Version}
use Rattle.vme_model.specs.declared.signals.Edge.{Edge}
use Rattle.vme_model.specs.Text.{TextFault, no_header, too_long, cut_off, split_lines, read_lines, before_others, behind_header, read_from_header, is_too_long, version_of, edge_of, next_number, unread, read_of}
use Rattle.vme_trace.specs.Reading.{ReaderState, HasRead, rest_of}

-- ---- without a version

no_edges_behind : (v : Option Version) (others : List Edge × Option TextFault) → (behind_header v others).version ≡ None
    → ((behind_header v others).edges ≡ []) × ((behind_header v others).fault ≢ None)
no_edges_behind None others h = (refl, λ e. cc)
no_edges_behind (Some v) others h = (absurd cc, λ e. cc)

module _ (n : ℕ) (rest : List ℕ) where
  unread_rest : (a b : Bool) → ((if a then unread (too_long n) else (if b then unread cut_off else unread no_header)).edges ≡ [])
      × ((if a then unread (too_long n) else (if b then unread cut_off else unread no_header)).fault ≢ None)
  unread_rest true b = (refl, λ e. cc)
  unread_rest false true = (refl, λ e. cc)
  unread_rest false false = (refl, λ e. cc)

unread_line : (n : ℕ) (a : Bool) (v : Option Version) (others : List Edge × Option TextFault)
    → (if a then unread (too_long n) else behind_header v others).version ≡ None
    → ((if a then unread (too_long n) else behind_header v others).edges ≡ []) × ((if a then unread (too_long n) else behind_header v others).fault ≢ None)
unread_line n true v others h = (refl, λ e. cc)
unread_line n false v others h = no_edges_behind v others h

no_version : (n : ℕ) (lines : List (List ℕ)) (rest : List ℕ) → (read_from_header n lines rest).version ≡ None
    → ((read_from_header n lines rest).edges ≡ []) × ((read_from_header n lines rest).fault ≢ None)
no_version n [] rest h = unread_rest n rest (is_too_long rest) (nat_lt 0 (length rest))
no_version n (line ∷ lines) rest h = unread_line n (is_too_long line) (version_of line) (read_lines (next_number n) lines rest) h

-- a trace whose version is not known has no edge, and a fault
pub unknown_version : (bytes : List ℕ) → (read_of bytes).version ≡ None → ((read_of bytes).edges ≡ []) × ((read_of bytes).fault ≢ None)
unfolding read_of
unknown_version bytes h = no_version 1 (split_lines bytes).0 (split_lines bytes).1 h

-- ---- as more is read

version_stays : (v : Version) (r : ReaderState) (bytes : List ℕ) (es : List Edge) (h : HasRead r bytes es) (w : Option Version) → r.version ≡ w → w ≡ Some v
    → (more : List ℕ) → (rest_of w h.place more).version ≡ Some v
version_stays v r bytes es h None e f more = absurd cc
version_stays v r bytes es h (Some w) e f more = f

-- whatever is read behind, the edges stay the first ones, and the version stays
pub reads_on : (v : Version) (r : ReaderState) (bytes : List ℕ) (es : List Edge) → HasRead r bytes es → r.version ≡ Some v → (more : List ℕ)
    → (others : List Edge) × ((read_of (bytes ++ more)).edges ≡ es ++ others) × ((read_of (bytes ++ more)).version ≡ Some v)
reads_on v r bytes es h known more = (
  (rest_of r.version h.place more).edges,
  ap (λ t. t.edges) (h.others more),
  ap (λ t. t.version) (h.others more) ∙ version_stays v r bytes es h r.version refl known more,
)

-- ---- how many edges

-- a byte before complete lines and a rest
abbrev begin : ℕ → List (List ℕ) × List ℕ → List (List ℕ) × List ℕ
begin b ([], rest) = ([], b ∷ rest)
begin b (l ∷ ls, rest) = ((b ∷ l) ∷ ls, rest)

length_begin : (b : ℕ) (p : List (List ℕ) × List ℕ) → length (begin b p).0 ≡ length p.0
length_begin b ([], rest) = refl
length_begin b (l ∷ ls, rest) = refl

split_bound : (b : Bool) (x : ℕ) (bytes : List ℕ) (p : List (List ℕ) × List ℕ) → length p.0 ≤ length bytes
    → length (if b then ([] ∷ p.0, p.1) else begin x p).0 ≤ length (x ∷ bytes)
split_bound true x bytes p h = omega arith
split_bound false x bytes p h = rw (length_begin x p) (omega arith)

lines_bound : (bytes : List ℕ) → length (split_lines bytes).0 ≤ length bytes
unfolding split_lines
lines_bound [] = omega arith
lines_bound (x ∷ bytes) = split_bound (x == 10) x bytes (split_lines bytes) (lines_bound bytes)

edges_step : (a : Bool) (n : ℕ) (e : Option Edge) (lines : List (List ℕ)) (line : List ℕ) (others : List Edge × Option TextFault) → length others.0 ≤ length lines
    → length (if a then ([], Some (too_long n)) else before_others n e others).0 ≤ length (line ∷ lines)
edges_step true n e lines line others h = omega arith
edges_step false n None lines line others h = omega arith
edges_step false n (Some e) lines line others h = omega arith

edges_bound : (n : ℕ) (lines : List (List ℕ)) (rest : List ℕ) → length (read_lines n lines rest).0 ≤ length lines
unfolding read_lines
edges_bound n [] rest = omega arith
edges_bound n (line ∷ lines) rest = edges_step (is_too_long line) n (edge_of line) lines line (read_lines (next_number n) lines rest) (edges_bound (next_number n) lines rest)

behind_bound : (a : Bool) (n k : ℕ) (v : Option Version) (others : List Edge × Option TextFault) → length others.0 ≤ k
    → length (if a then unread (too_long n) else behind_header v others).edges ≤ k
behind_bound true n k v others h = omega arith
behind_bound false n k None others h = omega arith
behind_bound false n k (Some v) others h = h

unread_bound : (a b : Bool) (n k : ℕ) → length (if a then unread (too_long n) else (if b then unread cut_off else unread no_header)).edges ≤ k
unread_bound true b n k = omega arith
unread_bound false true n k = omega arith
unread_bound false false n k = omega arith

header_bound : (n : ℕ) (lines : List (List ℕ)) (rest : List ℕ) → length (read_from_header n lines rest).edges ≤ length lines
header_bound n [] rest = unread_bound (is_too_long rest) (nat_lt 0 (length rest)) n 0
header_bound n (line ∷ lines) rest =
    behind_bound (is_too_long line) n (length (line ∷ lines)) (version_of line) (read_lines (next_number n) lines rest)
    (let h = edges_bound (next_number n) lines rest in omega (arith, h))

-- no more edges than bytes
pub few_edges : (bytes : List ℕ) → length (read_of bytes).edges ≤ length bytes
unfolding read_of
few_edges bytes = omega (arith, header_bound 1 (split_lines bytes).0 (split_lines bytes).1, lines_bound bytes)

-- a reader before the first byte knows no version
pub none_known : (r : ReaderState) → HasRead r [] [] → r.version ≡ None
unfolding read_of split_lines
none_known r h = sym h.version
