-- Two traces that are the same are one but for free swaps.
use Rattle.std.proofs.Common.{◌≡◌, inl, inr, ◌+◌, ◌++◌, ◌∷◌, [], ℕ, Bool, true, false, List, Option, Some, None, Ok, Err, is_ok, length, reverse, refl, sym, ◌∙◌, ap, append_assoc, append-nil, subst, arith}
use Rattle.std.specs.Prelude.{if◌then◌else◌}
use Rattle.std.proofs.Math.ListN.{length-append}
use Rattle.std.proofs.lemmas.List.{length-reverse}
use mathlib.Core.List.{reverse-cons}
use Rattle.vme_model.specs.declared.refusals.Refused.{Refused}
use Rattle.vme_model.specs.declared.signals.Edge.{Edge}
use Rattle.vme_model.specs.declared.signals.Version.{Version}
use Rattle.vme_model.specs.Plan.{Plan}
use Rattle.vme_model.specs.Accepted.{IsAccepted}
use Rattle.vme_model.specs.Numbered.{Numbered, edges_in, numbered}
use Rattle.vme_model.specs.Verdict.{IsLegal, Judgement, State, after, judged, kept, made, verdict, verdict_but_full}
use Rattle.vme_histories.proofs.Judged.{refused}
use Rattle.vme_swaps.specs.Swaps.{AreOneButForSwaps}
use Rattle.vme_swaps.proofs.Behind.{AreSame, same_by_swaps}
use Rattle.vme_reading.specs.Refusals.{first_refusal}
use Rattle.vme_reading.specs.Outcomes.{bench}
use Rattle.vme_reading.proofs.FirstRefusals.{all_kept}
use Rattle.vme_reading.proofs.KeptEdges.{edges_on}
use Rattle.vme_same.specs.declared.comparisons.Comparison.TheVariants.{Same}
use Rattle.vme_same.specs.Comparing.{Compares, IsComparison, IsFound}
use Rattle.vme_same.proofs.Brought.{brought_at, swaps_none, swaps_on}
use Rattle.vme_same.proofs.Judging.{edges_count}

turned : (e : Edge) (es rest : List Edge) → reverse (e ∷ es) ++ rest ≡ reverse es ++ e ∷ rest
turned e es rest = ap (λ l. l ++ rest) (reverse-cons e es) ∙ append_assoc (reverse es) (e ∷ []) rest

-- all that was left came to the front
pub record IsOne (v : Version) (p : Plan) (taken left : Numbered) (n m : ℕ) (fs : List Edge) : Type 0 where
  pub swaps : AreOneButForSwaps v p (edges_in (left ++ taken)) (reverse fs ++ edges_in taken)
  pub counted : m ≡ n + length fs
  pub all : length left ≡ length fs

module _ (v : Version) (p : Plan) (m : ℕ) where
  all_taken : (taken left : Numbered) (n : ℕ) (fs : List Edge)
      → Compares v p taken left n fs (Same m) → IsOne v p taken left n m fs
  all_taken taken left n [] (inl over) = record {
    swaps = subst (λ l. AreOneButForSwaps v p (edges_in (l ++ taken)) (edges_in taken)) (sym over.0)
        (swaps_none v p (edges_in taken));
    counted = (let is : m ≡ n = cc (over.1) in omega (arith, is));
    all = ap length over.0;
  }
  all_taken taken left n [] (inr over) = (let is = over.4 in absurd (cc))
  all_taken taken left n (e ∷ fs) (inl stays) = (let is = stays.4 in absurd (cc))
  all_taken taken left n (e ∷ fs) (inr comes) =
      let place = comes.0 in
      let others = all_taken ((place.number, e) ∷ taken) (place.behind ++ place.before) (n + 1) fs comes.3 in
      let count = others.counted in
      let all = others.all in
      let both = length-append place.behind place.before in
      let whole = ap length place.split ∙ length-append place.behind ((place.number, e) ∷ place.before) in
      record {
        swaps = subst (AreOneButForSwaps v p (edges_in (left ++ taken))) (sym (turned e fs (edges_in taken)))
            (swaps_on v p (edges_in (left ++ taken))
            (edges_in ((place.behind ++ place.before) ++ (place.number, e) ∷ taken))
            (reverse fs ++ e ∷ edges_in taken)
            (brought_at v p e taken left place comes.2) others.swaps);
        counted = omega (arith, count);
        all = omega (arith, all, both, whole);
      }

-- ---- what is kept is legal

ok_by : (v : Version) (p : Plan) (h : List Edge) (e : Edge) (rest j : Judgement)
    → verdict_but_full v p h e ≡ j → is_ok (judged v p h e rest) ≡ true
    → verdict_but_full v p h e ≡ Ok tt
ok_by v p h e rest (Ok u) is ok = is
ok_by v p h e rest (Err r) is ok = absurd (cc (ap is_ok (refused v p h e r rest is), ok))

legal_after : (t : Bool) (b : State) (e : Edge) → is_ok (verdict b e) ≡ t
    → IsLegal b.version b.plan b.history
    → IsLegal (if t then made b e else b).version (if t then made b e else b).plan
    (if t then made b e else b).history
legal_after true b e is legal =
    (ok_by b.version b.plan b.history e _ (verdict_but_full b.version b.plan b.history e) refl is, legal)
legal_after false b e is legal = legal

kept_legal : (b : State) (es : List Edge) → IsLegal b.version b.plan b.history
    → IsLegal (kept b es).version (kept b es).plan (kept b es).history
kept_legal b [] legal = legal
kept_legal b (e ∷ es) legal =
    kept_legal (after b e) es (legal_after (is_ok (verdict b e)) b e refl legal)

-- what is claimed of two traces that are the same
pub record AreSameTraces (p : Plan) (v w : Version) (es fs : List Edge) (n : ℕ) : Type 0 where
  pub version : v ≡ w
  pub swaps : AreOneButForSwaps v p (reverse es) (reverse fs)
  pub first : length es ≡ n
  pub second : length fs ≡ n
  pub legal : IsLegal v p (reverse es)

module _ (p : Plan) (v w : Version) (es fs : List Edge) (n : ℕ) where
  left_is : first_refusal 1 (bench p v) es ≡ None → edges_in (numbered (bench p v) es) ≡ reverse es
  left_is none = edges_on (bench p v) 0 [] es refl
      ∙ ap (λ b. b.history) (all_kept 1 (bench p v) es none) ∙ append-nil (reverse es)

  by_refusals : (a b : Option (ℕ × Refused)) → first_refusal 1 (bench p v) es ≡ a
      → IsFound p v w es fs a b (Same n) → AreSameTraces p v w es fs n
  by_refusals (Some (i, refused)) b is found = absurd (cc)
  by_refusals None (Some (i, refused)) is found = absurd (cc)
  by_refusals None None is (inl found) = (let other = found.1 in absurd (cc))
  by_refusals None None is (inr found) =
      let k = numbered (bench p v) es in
      let one = all_taken v p n [] k 0 fs found.1 in
      let count = one.counted in
      let all = one.all in
      let left : edges_in (k ++ []) ≡ reverse es = ap edges_in (append-nil k) ∙ left_is is in
      let edges : length (reverse es) ≡ length k = ap length (sym (left_is is)) ∙ edges_count k in
      let turned : length (reverse es) ≡ length es = length-reverse es in
      record {
        version = found.0;
        swaps = subst (λ g. AreOneButForSwaps v p g (reverse fs)) left
            (subst (AreOneButForSwaps v p (edges_in (k ++ []))) (append-nil (reverse fs)) one.swaps);
        first = omega (arith, count, all, edges, turned);
        second = omega (arith, count);
        legal = subst (IsLegal v p) (append-nil (reverse es))
            (subst (λ (b : State). IsLegal b.version b.plan b.history) (all_kept 1 (bench p v) es is)
            (kept_legal (bench p v) es tt));
      }

  pub same_traces : IsComparison p v w es fs (Same n) → AreSameTraces p v w es fs n
  same_traces found = by_refusals (first_refusal 1 (bench p v) es) (first_refusal 1 (bench p w) fs) refl found

  pub all_same : IsAccepted p → IsComparison p v w es fs (Same n)
      → AreSame v p (reverse es) (reverse fs)
  all_same accepted found =
      let same = same_traces found in
      same_by_swaps v p (reverse es) (reverse fs) accepted same.legal same.swaps
