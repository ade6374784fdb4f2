-- The lines of edges that were seen, written one after another.
use Rattle.std.proofs.Common.{◌≡◌, ◌<◌, ◌+◌, ◌++◌, ◌∷◌, [], ℕ, List, Option, Some, None, Result, Ok, Err, OnOk, length, refl, sym, ◌∙◌, ap, append_assoc, append-nil, drop, get_or, arith, subst, add-zero, suc, zero, All}
use Rattle.std.specs.List.{slice_get}
use Rattle.std.specs.Option.{option_map_or}
use Rattle.std.specs.Io.KnownBytes.{Appends, Keeps}
use Rattle.std.proofs.KnownBytes.{Appends-trans, Appends-kept}
use Rattle.std.proofs.lemmas.List.{drop_more}
use Rattle.std.proofs.lemmas.List.Elements.{All-head, All-tail}
use Rattle.std.proofs.lemmas.Option.{slice_get-get_or}
use Rattle.vme_model.specs.declared.signals.Version.{Version}
use Rattle.vme_model.specs.Plan.{Plan}
use Rattle.vme_model.specs.Report.{at_power_up, trace_limit}
use Rattle.vme_model.specs.Text.{edge_lines, header}
use Rattle.vme_model.specs.Verdict.{State, after}
use Rattle.vme_trace.specs.Writing.{AppendsFront, edge_line}
use Rattle.vme_trace.proofs.WrittenLines.{Wrote, first_front, second_front, wrote_all, wrote_front}
use Rattle.vme_moments.specs.declared.Seen.{Seen}
use Rattle.vme_order.specs.declared.Form.{Form}
use Rattle.vme_order.specs.declared.Form.TheVariants.{Trace, Places}
use Rattle.vme_order.specs.Lines.{all_judged, head_text, judged, seen_line, seen_lines}
use Rattle.vme_order.specs.Ordering.{edges_of, form_text, found_text, place_lines, seen_at}

-- ---- what was seen at some places

one_both : (o : Option Seen) (all xs ys : List Seen) → all ≡ xs ++ ys
    → option_map_or (λ s. s ∷ all) o all ≡ option_map_or (λ s. s ∷ xs) o xs ++ ys
one_both None all xs ys h = h
one_both (Some s) all xs ys h = ap (λ l. s ∷ l) h

seen_both : (ms : List Seen) (xs ys : List ℕ) → seen_at ms (xs ++ ys) ≡ seen_at ms xs ++ seen_at ms ys
seen_both ms [] ys = refl
seen_both ms (j ∷ xs) ys =
    one_both (slice_get ms j) (seen_at ms (xs ++ ys)) (seen_at ms xs) (seen_at ms ys)
    (seen_both ms xs ys)

one_seen : (o : Option Seen) (s : Seen) (ss : List Seen) → o ≡ Some s
    → option_map_or (λ t. t ∷ ss) o ss ≡ s ∷ ss
one_seen None s ss h = cc
one_seen (Some t) s ss h = ap (λ r. r ∷ ss) (same t s h)
  where
    same : (t s : Seen) → Some t ≡ Some s → t ≡ s
    same t s h = cc

-- from one of the places on
seen_drop : (ms : List Seen) (ps : List ℕ) (i d : ℕ) (s : Seen) → i < length ps
    → get_or ps i d < length ms
    → seen_at ms (drop i ps) ≡ get_or ms (get_or ps i d) s ∷ seen_at ms (drop (i + 1) ps)
seen_drop ms ps i d s lt within =
    ap (λ l. seen_at ms l) (drop_more ps i d lt)
    ∙ one_seen (slice_get ms (get_or ps i d)) (get_or ms (get_or ps i d) s)
    (seen_at ms (drop (i + 1) ps)) (slice_get-get_or ms (get_or ps i d) s within)

one_at : (ms : List Seen) (p : ℕ) → p < length ms → (s : Seen) × (slice_get ms p ≡ Some s)
one_at [] p h = absurd (omega arith)
one_at (m ∷ ms) zero h = (m, refl)
one_at (m ∷ ms) (suc p) h = one_at ms p (omega arith)

-- as many as the places
pub seen_count : (ms : List Seen) (ps : List ℕ) → All (λ p. p < length ms) ps
    → length (seen_at ms ps) ≡ length ps
seen_count ms [] within = refl
seen_count ms (p ∷ ps) within =
    let one = one_at ms p (All-head (λ q. q < length ms) p ps within) in
    ap length (one_seen (slice_get ms p) one.0 (seen_at ms ps) one.1)
    ∙ ap suc (seen_count ms ps (All-tail (λ q. q < length ms) p ps within))

-- ---- their lines

-- the lines of some, and of others behind them
lines_both : (form : Form) (t : State) (n : ℕ) (ss ts : List Seen)
    → seen_lines form t n (ss ++ ts)
    ≡ seen_lines form t n ss ++ seen_lines form (all_judged form t ss) (n + length ss) ts
lines_both form t n [] ts = ap (λ k. seen_lines form t k ts) (sym (add-zero n))
lines_both form t n (s ∷ ss) ts =
    let next : State = judged form t s.edge in
    let count : (n + 1) + length ss ≡ n + suc (length ss) = omega arith in
    ap (λ l. seen_line form t n s ++ l) (lines_both form next (n + 1) ss ts)
    ∙ sym (append_assoc (seen_line form t n s) (seen_lines form next (n + 1) ss)
    (seen_lines form (all_judged form next ss) ((n + 1) + length ss) ts))
    ∙ ap (λ k. (seen_line form t n s ++ seen_lines form next (n + 1) ss)
    ++ seen_lines form (all_judged form next ss) k ts) count

trace_lines : (t : State) (n : ℕ) (ss : List Seen)
    → edge_lines (edges_of ss) ≡ seen_lines Trace t n ss
trace_lines t n [] = refl
trace_lines t n (s ∷ ss) = ap (λ l. edge_line s.edge ++ l) (trace_lines t (n + 1) ss)

placed_lines : (t : State) (n : ℕ) (ss : List Seen)
    → place_lines t n ss ≡ seen_lines Places t n ss
placed_lines t n [] = refl
placed_lines t n (s ∷ ss) =
    ap (λ l. seen_line Places t n s ++ l) (placed_lines (after t s.edge) (n + 1) ss)

-- the bus before the first line
abbrev pub at_first : Version → Plan → State
at_first v p = at_power_up v p trace_limit

text_lines : (form : Form) (v : Version) (p : Plan) (ss : List Seen)
    → form_text form v p ss ≡ head_text form v ++ seen_lines form (at_first v p) 1 ss
text_lines Trace v p ss = ap (λ l. (header v ++ 10 ∷ []) ++ l) (trace_lines (at_first v p) 1 ss)
text_lines Places v p ss = placed_lines (at_first v p) 1 ss

-- the text of what was found: what stands before the lines, those of the order, and those behind it
pub found_lines : (form : Form) (v : Version) (p : Plan) (ms : List Seen) (order next : List ℕ)
    → All (λ p. p < length ms) order
    → found_text form v p ms order next
    ≡ (head_text form v ++ seen_lines form (at_first v p) 1 (seen_at ms order))
    ++ seen_lines form (all_judged form (at_first v p) (seen_at ms order)) (length order + 1)
    (seen_at ms next)
found_lines form v p ms order next within =
    let t : State = at_first v p in
    let made : State = all_judged form t (seen_at ms order) in
    let count : 1 + length (seen_at ms order) ≡ length order + 1 =
    omega (arith, seen_count ms order within) in
    text_lines form v p (seen_at ms (order ++ next))
    ∙ ap (λ ss. head_text form v ++ seen_lines form t 1 ss) (seen_both ms order next)
    ∙ ap (λ l. head_text form v ++ l) (lines_both form t 1 (seen_at ms order) (seen_at ms next))
    ∙ ap (λ k. head_text form v ++ (seen_lines form t 1 (seen_at ms order)
    ++ seen_lines form made k (seen_at ms next))) count
    ∙ sym (append_assoc (head_text form v) (seen_lines form t 1 (seen_at ms order))
    (seen_lines form made (length order + 1) (seen_at ms next)))

-- one more was judged of those from one of the places on
pub state_next : (form : Form) (t u : State) (ms : List Seen) (ps : List ℕ) (i d : ℕ) (s : Seen)
    → i < length ps → get_or ps i d < length ms
    → u ≡ judged form t (get_or ms (get_or ps i d) s).edge
    → all_judged form u (seen_at ms (drop (i + 1) ps)) ≡ all_judged form t (seen_at ms (drop i ps))
state_next form t u ms ps i d s lt within is =
    ap (λ v. all_judged form v (seen_at ms (drop (i + 1) ps))) is
    ∙ sym (ap (λ ss. all_judged form t ss) (seen_drop ms ps i d s lt within))

-- ---- written one after another

module _ (a b c : Option (List ℕ)) (whole : List ℕ) (form : Form) (t : State) (n : ℕ)
    (ms : List Seen) (ps : List ℕ) (i d : ℕ) (s : Seen) (lt : i < length ps)
    (within : get_or ps i d < length ms) where
  module _ (wrote : Wrote a b whole (seen_lines form t n (seen_at ms (drop i ps)))) where
    next_wrote : Wrote a b whole
        (seen_line form t n (get_or ms (get_or ps i d) s)
        ++ seen_lines form (judged form t (get_or ms (get_or ps i d) s).edge) (n + 1)
        (seen_at ms (drop (i + 1) ps)))
    next_wrote =
        subst (λ (ss : List Seen). Wrote a b whole (seen_lines form t n ss))
        (seen_drop ms ps i d s lt within) wrote

    -- the line of one more
    pub line_more : (u : State) → u ≡ judged form t (get_or ms (get_or ps i d) s).edge
        → Appends b c (seen_line form t n (get_or ms (get_or ps i d) s))
        → Wrote a c whole (seen_lines form u (n + 1) (seen_at ms (drop (i + 1) ps)))
    line_more u is w =
        subst (λ (v : State). Wrote a c whole (seen_lines form v (n + 1) (seen_at ms (drop (i + 1) ps))))
        (sym is)
        (wrote_all a b c whole (seen_line form t n (get_or ms (get_or ps i d) s))
        (seen_lines form (judged form t (get_or ms (get_or ps i d) s).edge) (n + 1)
        (seen_at ms (drop (i + 1) ps))) next_wrote w)

    -- it could not be written
    pub line_front : AppendsFront b c (seen_line form t n (get_or ms (get_or ps i d) s))
        → AppendsFront a c whole
    line_front w =
        wrote_front a b c whole (seen_line form t n (get_or ms (get_or ps i d) s))
        (seen_lines form (judged form t (get_or ms (get_or ps i d) s).edge) (n + 1)
        (seen_at ms (drop (i + 1) ps))) next_wrote w

-- ---- what was found, written part by part

pub on_ok : {A E : Type 0} (r : Result A E) (P : Type 0) → P → OnOk r P
on_ok (Ok a) P h = h
on_ok (Err e) P h = tt

whole_front : (a b : Option (List ℕ)) (x : List ℕ) → Appends a b x → AppendsFront a b x
whole_front a b x w = (x, [], sym (append-nil x), w)

module _ (form : Form) (v : Version) (p : Plan) (ms : List Seen) (order next : List ℕ)
    (within : All (λ p. p < length ms) order) (a b : Option (List ℕ)) where
  head : List ℕ
  head = head_text form v

  first_lines : List ℕ
  first_lines = seen_lines form (at_first v p) 1 (seen_at ms order)

  next_lines : List ℕ
  next_lines =
      seen_lines form (all_judged form (at_first v p) (seen_at ms order)) (length order + 1)
      (seen_at ms next)

  abbrev IsFront : Option (List ℕ) → List ℕ → Type 0
  IsFront c l = AppendsFront a c l

  parts : found_text form v p ms order next ≡ (head ++ first_lines) ++ next_lines
  unfolding head first_lines next_lines
  parts = found_lines form v p ms order next within

  -- what stands before the lines could not be written
  pub head_front : AppendsFront a b (head_text form v)
      → AppendsFront a b (found_text form v p ms order next)
  unfolding head
  head_front w =
      subst (λ l. IsFront b l) (sym parts)
      (first_front a b (head ++ first_lines) next_lines (first_front a b head first_lines w))

  module _ (first : Appends a b (head_text form v)) (c : Option (List ℕ)) where
    -- the lines of the order could not be written
    pub order_front : AppendsFront b c (seen_lines form (at_first v p) 1 (seen_at ms order))
        → AppendsFront a c (found_text form v p ms order next)
    unfolding head first_lines
    order_front w =
        subst (λ l. IsFront c l) (sym parts)
        (first_front a c (head ++ first_lines) next_lines
        (second_front a b c head first_lines first w))

    module _ (second : Appends b c (seen_lines form (at_first v p) 1 (seen_at ms order)))
        (d : Option (List ℕ)) where
      both : Appends a c (head ++ first_lines)
      unfolding head first_lines
      both = Appends-trans a b c head first_lines first second

      -- the lines behind it could not be written
      pub next_front : AppendsFront c d (seen_lines form
          (all_judged form (at_first v p) (seen_at ms order)) (length order + 1) (seen_at ms next))
          → AppendsFront a d (found_text form v p ms order next)
      unfolding next_lines
      next_front w =
          subst (λ l. IsFront d l) (sym parts)
          (second_front a c d (head ++ first_lines) next_lines both w)

      -- all was written
      pub all_written : Appends c d (seen_lines form
          (all_judged form (at_first v p) (seen_at ms order)) (length order + 1) (seen_at ms next))
          → (e : Option (List ℕ)) → Keeps d e → Appends a e (found_text form v p ms order next)
      unfolding next_lines
      all_written w e kept =
          subst (λ (l : List ℕ). Appends a e l) (sym parts)
          (Appends-kept a d e ((head ++ first_lines) ++ next_lines)
          (Appends-trans a c d (head ++ first_lines) next_lines both w) kept)

      pub all_front : Appends c d (seen_lines form
          (all_judged form (at_first v p) (seen_at ms order)) (length order + 1) (seen_at ms next))
          → (e : Option (List ℕ)) → Keeps d e
          → AppendsFront a e (found_text form v p ms order next)
      all_front w e kept =
          whole_front a e (found_text form v p ms order next) (all_written w e kept)
