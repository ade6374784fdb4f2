-- A line spells at most one edge, and that edge is found in it.
use Rattle.std.proofs.Common.{◌≡◌, ◌≢◌, ◌<◌, ◌≤◌, ◌⊎◌, ◌&&◌, not, leb, ℕ, Bool, true, false, eqb, List, [], ◌∷◌, ◌++◌, length, get_or, drop, Option, Some, None, option_map, refl, sym, ◌∙◌, ap, arith, inl, inr, append-nil, length-append}
use Rattle.std.proofs.lemmas.Bool.{and_parts}
use Rattle.std.proofs.lemmas.Bool.Decides.{nat_tests}
use Rattle.std.proofs.lemmas.Option.{same_Some}
use Rattle.std.proofs.lemmas.Slice.Eq.{bytes_eq-Decides}
use Rattle.std.specs.List.{list_all}
use Rattle.std.specs.Str.{bytes_eq}
use Rattle.vme_model.specs.declared.signals.Edge.{Edge}
use Rattle.vme_model.specs.Signals.{is_well_formed}
use Rattle.vme_model.specs.Text.{spelling, Spells, all_edges, edge_of}
use Rattle.vme_trace.specs.Fronts.{First, IsFrontLine}
use Rattle.vme_trace.specs.Reading.{IsOneLine}
use Rattle.vme_trace.proofs.AllEdges.{in_all, find_in, find_none, every_edge, formed}
use Rattle.vme_trace.proofs.Lines.{true_false, no_bytes}
use Rattle.vme_trace.proofs.FrontEdge.{first_edge, front_found}

same_bytes : (xs ys : List ℕ) → bytes_eq xs ys ≡ true → xs ≡ ys
same_bytes xs ys h = (bytes_eq-Decides xs ys).0 h

bytes_same : (xs : List ℕ) → bytes_eq xs xs ≡ true
bytes_same xs = (bytes_eq-Decides xs xs).1 refl

abbrev test : List ℕ → Edge → Bool
test line e = bytes_eq line (spelling e)

pub reads : (line : List ℕ) (e : Edge) → edge_of line ≡ Some e → Spells line e
unfolding edge_of
reads line e h =
    let k = find_in (test line) e all_edges h in
    (formed e k.0, same_bytes line (spelling e) k.1)

-- a line and its line feed
abbrev with_feed : List ℕ → List ℕ
with_feed line = line ++ 10 ∷ []

-- a line that spells an edge is the front line of that edge, with nothing after it
front_line : (line : List ℕ) (e : Edge) → Spells line e → IsFrontLine e (with_feed line) []
front_line line e h = record { formed = h.0; is = ap with_feed h.1 ∙ sym (append-nil (with_feed (spelling e))) }

abbrev edge_part : First Edge → Option Edge
edge_part found = option_map (λ p. p.0) found

pub one_edge : (line : List ℕ) (d e : Edge) → Spells line d → Spells line e → d ≡ e
one_edge line d e h k =
    let same : first_edge (with_feed line) ≡ Some (d, []) = front_found d (with_feed line) [] (front_line line d h) in
    let other : first_edge (with_feed line) ≡ Some (e, []) = front_found e (with_feed line) [] (front_line line e k) in
    same_Some d e (ap edge_part (sym same ∙ other))

some_or_none : {A : Type 0} (o : Option A) → ((x : A) × (o ≡ Some x)) ⊎ (o ≡ None)
some_or_none None = inr refl
some_or_none (Some x) = inl (x, refl)

pub spelled : (line : List ℕ) (e : Edge) → Spells line e → edge_of line ≡ Some e
unfolding edge_of
spelled line e h =
    elim (some_or_none (edge_of line)) [
      | inl found ↦ found.1 ∙ ap (λ x. Some x) (one_edge line found.0 e (reads line found.0 found.1) h)
      | inr none ↦
          let f : test line e ≡ false = find_none (test line) e all_edges none (every_edge e h.0) in
          absurd (true_false (sym (ap (λ l. bytes_eq l (spelling e)) h.1 ∙ bytes_same (spelling e)) ∙ f))
    ]

-- a line that spells no edge is read as none
no_edge : (line : List ℕ) → ((e : Edge) → Spells line e → ⊥) → edge_of line ≡ None
no_edge line not =
    elim (some_or_none (edge_of line)) [
      | inl found ↦ absurd (not found.0 (reads line found.0 found.1))
      | inr none ↦ none
    ]

-- ---- a line is not longer than a reader takes, and has no line feed

abbrev is_one_line : List ℕ → Bool
is_one_line [] = true
is_one_line (b ∷ bs) = not (eqb b 10) && is_one_line bs

abbrev fits : Edge → Bool
fits e = is_one_line (spelling e) && leb (length (spelling e)) 15

-- the spelling of every well-formed edge has that property: computed for each edge
all_fit : list_all fits all_edges ≡ true
unfolding all_edges
all_fit = refl

no_feed : (b : ℕ) → not (eqb b 10) ≡ true → b ≢ 10
no_feed b h = grind (arith, nat_tests)

one_line : (line : List ℕ) → is_one_line line ≡ true → IsOneLine line
one_line [] h = tt
one_line (b ∷ bs) h = let k = and_parts (not (eqb b 10)) (is_one_line bs) h in (no_feed b k.0, one_line bs k.1)

at_most : (n : ℕ) → leb n 15 ≡ true → n ≤ 15
at_most n h = grind (arith, nat_tests)

short : (e : Edge) → is_well_formed e ≡ true → IsOneLine (spelling e) × (length (spelling e) ≤ 15)
short e h =
    let k = and_parts (is_one_line (spelling e)) (leb (length (spelling e)) 15) (in_all fits e all_edges all_fit (every_edge e h)) in
    (one_line (spelling e) k.0, at_most (length (spelling e)) k.1)

pub spelling_fits : (e : Edge) → is_well_formed e ≡ true → IsOneLine (spelling e) × (length (spelling e) ≤ 64)
spelling_fits e h = let k = short e h in (k.0, omega (arith, k.1))

-- ---- a whole line, read at the front of itself and its line feed

pub long_line : (line : List ℕ) → 15 < length line → None ≡ edge_of line
long_line line h = sym (no_edge line (λ e s. let k = (short e s.0).1 in let same = ap length s.1 in omega (arith, h, k, same)))

without_feed : (xs ys : List ℕ) → with_feed xs ≡ with_feed ys → xs ≡ ys
without_feed [] [] h = refl
without_feed [] (y ∷ ys) h = let same = ap length h in absurd (omega (arith, simp length-append at same))
without_feed (x ∷ xs) [] h = let same = ap length h in absurd (omega (arith, simp length-append at same))
without_feed (x ∷ xs) (y ∷ ys) h =
    let first : x ≡ y = ap (λ l. get_or l 0 0) h in
    let rest : xs ≡ ys = without_feed xs ys (ap (drop 1) h) in
    rw (first, rest) refl

module _ (line text : List ℕ) (is : text ≡ with_feed line) where
  -- a line that spells an edge has this edge at its front, and nothing after it
  spelled_front : (e : Edge) → Spells line e → first_edge text ≡ Some (e, [])
  spelled_front e h = ap first_edge is ∙ front_found e (with_feed line) [] (front_line line e h)

  pub no_front : ((e : Edge) (rest : List ℕ) → is_well_formed e ≡ true → text ≢ (spelling e ++ 10 ∷ []) ++ rest) → None ≡ edge_of line
  no_front missed = sym (no_edge line (λ e s. missed e [] s.0 (is ∙ (front_line line e s).is)))

  module _ (e : Edge) (rest : List ℕ) (front : IsFrontLine e text rest) where
    pub whole_front : length rest ≡ 0 → Some e ≡ edge_of line
    whole_front none =
        let empty : rest ≡ [] = no_bytes rest none in
        let same : with_feed line ≡ with_feed (spelling e) =
        sym is ∙ front.is ∙ ap (λ l. with_feed (spelling e) ++ l) empty ∙ append-nil (with_feed (spelling e)) in
        sym (spelled line e (front.formed, without_feed line (spelling e) same))

    pub part_front : 0 < length rest → None ≡ edge_of line
    part_front more =
        sym (no_edge line (λ d s.
        let same : ◌≡◌ {A = First Edge} (Some (e, rest)) (Some (d, [])) = sym (front_found e text rest front) ∙ spelled_front d s in
        let none : rest ≡ [] = ap (λ p. p.1) (same_Some {A = Edge × List ℕ} (e, rest) (d, []) same) in
        let zero : length rest ≡ 0 = ap length none in
        omega (arith, more, zero)))
