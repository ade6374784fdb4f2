-- What is read stands in order of its moments, its edges are well formed, and they are few.
use Rattle.std.proofs.Common.{◌≡◌, ◌≤◌, ◌++◌, ◌∷◌, [], ℕ, zero, suc, Bool, true, false, cond, ltb, IsTrue, List, All, Option, Some, None, Result, Ok, Err, IfOk, length, refl, subst, arith}
use Rattle.std.proofs.lemmas.Bool.Decides.{nat_tests}
use Rattle.std.specs.List.{slice_get}
use Rattle.vme_model.specs.declared.signals.Edge.{Edge}
use Rattle.vme_model.specs.declared.signals.Version.{Version}
use Rattle.vme_model.specs.Signals.{is_well_formed}
use Rattle.std.proofs.lemmas.List.Elements.{All-nil, All-cons, All-append}
use Rattle.vme_trace.proofs.OneSpelling.{reads}
use Rattle.vme_model.specs.Text.{TextFault, no_header, cut_off, edge_of, is_too_long, next_number, split_lines, too_long, version_of}
use Rattle.vme_moments.specs.declared.Seen.{Seen}
use Rattle.vme_moments.specs.declared.MomentsFault.{MomentsFault as FaultValue}
use Rattle.vme_moments.specs.declared.reader.Moments.{Moments}
use Rattle.vme_moments.specs.Moments.{MomentsFault, Said, of_trace, earlier, too_many, at_edge, at_either, at_moment, before_others, behind_header, line_says, moment_of, read_from_header, read_of, read_seen, seen_limit, unread}
use Rattle.vme_moments.specs.Reading.{ReadsMoments, Say}
use Rattle.vme_moments.specs.Orders.{AreInOrder}

-- the moments do not fall, from that one on
abbrev pub IsRising : ℕ → List Seen → Type 0
IsRising m [] = Unit {0}
IsRising m (s ∷ ss) = (m ≤ s.moment) × IsRising s.moment ss

from_less : (k m : ℕ) (ss : List Seen) → k ≤ m → IsRising m ss → IsRising k ss
from_less k m [] h rising = tt
from_less k m (s ∷ ss) h rising = (let low : m ≤ s.moment = rising.0 in omega arith, rising.1)

-- the last moment, if there was one
abbrev pub at_least : Option ℕ → ℕ
at_least None = 0
at_least (Some m) = m

-- what a line says goes before what rises from the last moment behind it
abbrev Rises : Option ℕ → Result Said MomentsFault → Type 0
Rises last (Err f) = Unit {0}
Rises last (Ok s) =
    (ss : List Seen) → IsRising (at_least s.last) ss → IsRising (at_least last) (s.seen ++ ss)

moment_by : (n last m : ℕ) (b : Bool) → ltb m last ≡ b
    → Rises (Some last) (cond b (Err (earlier n)) (Ok (record { last = Some m; seen = [] })))
moment_by n last m true e = tt
moment_by n last m false e = λ ss rising.
    from_less last m ss (let le : last ≤ m = grind (arith, nat_tests) in le) rising

either_rises : (n : ℕ) (last m : Option ℕ) (e : Option Edge) → Rises last (at_either n last m e)
either_rises n None (Some m) e = λ ss rising. from_less 0 m ss (omega arith) rising
either_rises n (Some last) (Some m) e = moment_by n last m (ltb m last) refl
either_rises n None None None = tt
either_rises n None None (Some e) = tt
either_rises n (Some last) None None = tt
either_rises n (Some last) None (Some e) = λ ss rising. (≤_same last, rising)
  where
    ≤_same : (k : ℕ) → k ≤ k
    ≤_same k = omega arith

line_by : (n : ℕ) (last : Option ℕ) (line : List ℕ) (b : Bool) (f : MomentsFault)
    → Rises last (cond b (Err f) (at_either n last (moment_of line) (edge_of line)))
line_by n last line true f = tt
line_by n last line false f = either_rises n last (moment_of line) (edge_of line)

rises_on : (last : Option ℕ) (r : Result Said MomentsFault)
    (others : Option ℕ → List Seen × Option MomentsFault) → Rises last r
    → ((m : Option ℕ) → IsRising (at_least m) (others m).0)
    → IsRising (at_least last) (before_others r others).0
rises_on last (Err f) others h rest = tt
rises_on last (Ok s) others h rest = h (others s.last).0 (rest s.last)

seen_rises : (n : ℕ) (last : Option ℕ) (lines : List (List ℕ)) (rest : List ℕ)
    → IsRising (at_least last) (read_seen n last lines rest).0
unfolding read_seen
seen_rises n last [] rest = tt
seen_rises n last (line ∷ lines) rest =
    rises_on last (line_says n last line) (λ m. read_seen (next_number n) m lines rest)
    (line_by n last line (is_too_long line) (of_trace (too_long n)))
    (λ m. seen_rises (next_number n) m lines rest)

-- all stand at that moment or behind it
all_above : (m : ℕ) (ss : List Seen) (j : ℕ) (b : Seen) → IsRising m ss → slice_get ss j ≡ Some b
    → m ≤ b.moment
all_above m [] j b rising is = absurd (none_some b is)
  where
    none_some : (b : Seen) → (let o : Option Seen = None in o ≡ Some b) → ⊥
    none_some b h = cc
all_above m (s ∷ ss) zero b rising is =
    let same : s.moment ≡ b.moment = one s b is in let low : m ≤ s.moment = rising.0 in omega arith
  where
    one : (s b : Seen) → Some s ≡ Some b → s.moment ≡ b.moment
    one s b h = cc
all_above m (s ∷ ss) (suc j) b rising is =
    let above : s.moment ≤ b.moment = all_above s.moment ss j b rising.1 is in
    let low : m ≤ s.moment = rising.0 in omega arith

in_order : (m : ℕ) (ss : List Seen) → IsRising m ss → AreInOrder ss
in_order m [] rising i j a b lt ai bj = absurd (none_some b bj)
  where
    none_some : (b : Seen) → (let o : Option Seen = None in o ≡ Some b) → ⊥
    none_some b h = cc
in_order m (s ∷ ss) rising i zero a b lt ai bj = absurd (omega arith)
in_order m (s ∷ ss) rising zero (suc j) a b lt ai bj =
    let same : s.moment ≡ a.moment = one s a ai in
    let above : s.moment ≤ b.moment = all_above s.moment ss j b rising.1 bj in omega arith
  where
    one : (s b : Seen) → Some s ≡ Some b → s.moment ≡ b.moment
    one s b h = cc
in_order m (s ∷ ss) rising (suc i) (suc j) a b lt ai bj =
    in_order s.moment ss rising.1 i j a b (omega arith) ai bj

-- what is read of lines stands in order
pub read_in_order : (n : ℕ) (last : Option ℕ) (lines : List (List ℕ)) (rest : List ℕ)
    → AreInOrder (read_seen n last lines rest).0
read_in_order n last lines rest =
    in_order (at_least last) (read_seen n last lines rest).0 (seen_rises n last lines rest)

-- What holds of no edges, and of those that the lines after the header say, holds of what is read of
-- bytes.
module _ (P : List Seen → Type 0) (none : P [])
    (all : (lines : List (List ℕ)) (rest : List ℕ) → P (read_seen 2 None lines rest).0) where
  of_rest : (a b : Bool) (t u w : TextFault)
      → P (cond a (unread t) (cond b (unread u) (unread w))).seen
  of_rest true b t u w = none
  of_rest false true t u w = none
  of_rest false false t u w = none

  of_lines : (a : Bool) (t : TextFault) (v : Option Version)
      (found : List Seen × Option MomentsFault) → P found.0
      → P (cond a (unread t) (behind_header v found)).seen
  of_lines true t v found h = none
  of_lines false t None found h = none
  of_lines false t (Some v) found h = h

  from_header : (lines : List (List ℕ)) (rest : List ℕ) → P (read_from_header lines rest).seen
  from_header [] rest =
      of_rest (is_too_long rest) (ltb 0 (length rest)) (too_long 1) cut_off no_header
  from_header (line ∷ lines) rest =
      of_lines (is_too_long line) (too_long 1) (version_of line) (read_seen 2 None lines rest)
      (all lines rest)

  pub of_bytes : (bytes : List ℕ) → P (read_of bytes).seen
  unfolding read_of
  of_bytes bytes = from_header (split_lines bytes).0 (split_lines bytes).1

-- what is read of bytes stands in order
pub bytes_in_order : (bytes : List ℕ) → AreInOrder (read_of bytes).seen
bytes_in_order bytes =
    of_bytes (λ ss. AreInOrder ss) (in_order 0 [] tt) (λ lines rest. read_in_order 2 None lines rest)
    bytes

-- so does what a reader says of them
pub said_in_order : (bytes : List ℕ) (m : Moments) → Say bytes m → AreInOrder m.seen.items
said_in_order bytes m said =
    subst (λ (ss : List Seen). AreInOrder ss) said.seen (bytes_in_order bytes)

pub result_in_order : (from to : Option (List ℕ)) (r : Result Moments FaultValue)
    → ReadsMoments from to r → IfOk r (λ m. AreInOrder m.seen.items)
result_in_order from to (Ok m) h = said_in_order h.0 m h.3
result_in_order from to (Err f) h = tt

-- ---- each edge is well formed

abbrev pub IsFormed : Seen → Type 0
IsFormed s = IsTrue (is_well_formed s.edge)

-- each edge that a line says is well formed
abbrev Forms : Result Said MomentsFault → Type 0
Forms (Err f) = Unit {0}
Forms (Ok s) = All IsFormed s.seen

moment_forms : (n : ℕ) (last : Option ℕ) (m : ℕ) → Forms (at_moment n last m)
moment_forms n None m = All-nil IsFormed
moment_forms n (Some last) m = by (ltb m last)
  where
    by : (b : Bool) → Forms (cond b (Err (earlier n)) (Ok (record { last = Some m; seen = [] })))
    by true = tt
    by false = All-nil IsFormed

edge_forms : (n : ℕ) (last : Option ℕ) (line : List ℕ) (e : Option Edge) → edge_of line ≡ e
    → Forms (at_edge n last e)
edge_forms n None line None is = tt
edge_forms n None line (Some e) is = tt
edge_forms n (Some m) line None is = tt
edge_forms n (Some m) line (Some e) is =
    All-cons IsFormed (record { edge = e; moment = m; line = n }) [] (reads line e is).0
    (All-nil IsFormed)

either_forms : (n : ℕ) (last m : Option ℕ) (line : List ℕ)
    → Forms (at_either n last m (edge_of line))
either_forms n last (Some m) line = moment_forms n last m
either_forms n last None line = edge_forms n last line (edge_of line) refl

line_forms : (n : ℕ) (last : Option ℕ) (line : List ℕ) (b : Bool)
    → Forms (cond b (Err (of_trace (too_long n))) (at_either n last (moment_of line) (edge_of line)))
line_forms n last line true = tt
line_forms n last line false = either_forms n last (moment_of line) line

forms_on : (r : Result Said MomentsFault) (others : Option ℕ → List Seen × Option MomentsFault)
    → Forms r → ((m : Option ℕ) → All IsFormed (others m).0)
    → All IsFormed (before_others r others).0
forms_on (Err f) others h rest = All-nil IsFormed
forms_on (Ok s) others h rest =
    All-append IsFormed s.seen (others s.last).0 h (rest s.last)

seen_formed : (n : ℕ) (last : Option ℕ) (lines : List (List ℕ)) (rest : List ℕ)
    → All IsFormed (read_seen n last lines rest).0
unfolding read_seen
seen_formed n last [] rest = All-nil IsFormed
seen_formed n last (line ∷ lines) rest =
    forms_on (line_says n last line) (λ m. read_seen (next_number n) m lines rest)
    (line_forms n last line (is_too_long line)) (λ m. seen_formed (next_number n) m lines rest)

pub bytes_formed : (bytes : List ℕ) → All IsFormed (read_of bytes).seen
bytes_formed bytes =
    of_bytes (λ ss. All IsFormed ss) (All-nil IsFormed)
    (λ lines rest. seen_formed 2 None lines rest) bytes

pub result_formed : (from to : Option (List ℕ)) (r : Result Moments FaultValue)
    → ReadsMoments from to r → IfOk r (λ m. All IsFormed m.seen.items)
result_formed from to (Ok m) h =
    subst (λ (ss : List Seen). All IsFormed ss) h.3.seen (bytes_formed h.0)
result_formed from to (Err f) h = tt

-- ---- there are few

few_or_fault : (found : List Seen × Option MomentsFault) (b : Bool)
    → ltb seen_limit (length found.0) ≡ b → cond b (Some too_many) found.1 ≡ None
    → length found.0 ≤ seen_limit
few_or_fault found true e h = absurd (no_both h)
  where
    no_both : (let o : Option MomentsFault = Some too_many in o ≡ None) → ⊥
    no_both h = cc
few_or_fault found false e h = grind (arith, nat_tests)

behind_few : (a : Bool) (t : TextFault) (v : Option Version)
    (found : List Seen × Option MomentsFault) → (cond a (unread t) (behind_header v found)).fault ≡ None
    → length (cond a (unread t) (behind_header v found)).seen ≤ seen_limit
behind_few true t v found h = omega arith
behind_few false t None found h = omega arith
behind_few false t (Some v) found h =
    few_or_fault found (ltb seen_limit (length found.0)) refl h

unread_few : (a b : Bool) (t u w : TextFault)
    → length (cond a (unread t) (cond b (unread u) (unread w))).seen ≤ seen_limit
unread_few true b t u w = omega arith
unread_few false true t u w = omega arith
unread_few false false t u w = omega arith

lines_few : (lines : List (List ℕ)) (rest : List ℕ) → (read_from_header lines rest).fault ≡ None
    → length (read_from_header lines rest).seen ≤ seen_limit
lines_few [] rest h =
    unread_few (is_too_long rest) (ltb 0 (length rest)) (too_long 1) cut_off no_header
lines_few (line ∷ lines) rest h =
    behind_few (is_too_long line) (too_long 1) (version_of line) (read_seen 2 None lines rest) h

bytes_few : (bytes : List ℕ) → (read_of bytes).fault ≡ None → length (read_of bytes).seen ≤ seen_limit
unfolding read_of
bytes_few bytes h = lines_few (split_lines bytes).0 (split_lines bytes).1 h

pub result_few : (from to : Option (List ℕ)) (r : Result Moments FaultValue)
    → ReadsMoments from to r → IfOk r (λ m. length m.seen.items ≤ seen_limit)
result_few from to (Ok m) h =
    subst (λ (ss : List Seen). length ss ≤ seen_limit) h.3.seen (bytes_few h.0 h.3.whole)
result_few from to (Err f) h = tt
