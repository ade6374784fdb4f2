-- The first refusal among edges.
use Rattle.std.proofs.Common.{◌≡◌, ℕ, ◌+◌, ◌≤◌, List, [], ◌∷◌, ◌++◌, length, Bool, true, false, Option, Some, None, Ok, Err, refl, sym, ◌∙◌, ap, append_assoc, subst, arith, reverse}
use mathlib.Core.List.{reverse-cons}
use Rattle.std.specs.Prelude.{◌-◌, if◌then◌else◌, is_ok}
use Rattle.vme_model.specs.declared.signals.Edge.{Edge}
use Rattle.vme_model.specs.declared.refusals.Refused.{Refused}
use Rattle.vme_model.specs.Verdict.{State, Judgement, verdict, after, made, kept}
use Rattle.vme_reading.specs.Refusals.{or_refusal, first_refusal}

or_none : (n : ℕ) (j : Judgement) (later : Option (ℕ × Refused)) → or_refusal n j later ≡ None → (j ≡ Ok tt) × (later ≡ None)
or_none n (Ok tt) later h = (refl, h)
or_none n (Err r) later h = absurd cc

-- behind edges of which none is refused, the first refusal is that of the others
pub refusal_behind : (n : ℕ) (b : State) (es fs : List Edge) → first_refusal n b es ≡ None → first_refusal n b (es ++ fs) ≡ first_refusal (n + length es) (kept b es) fs
refusal_behind n b [] fs h = ap (λ m. first_refusal m b fs) (omega arith)
refusal_behind n b (e ∷ es) fs h =
    let both = or_none n (verdict b e) (first_refusal (n + 1) (after b e) es) h in
    let here : first_refusal n b (e ∷ (es ++ fs)) ≡ first_refusal (n + 1) (after b e) (es ++ fs) = ap (λ j. or_refusal n j (first_refusal (n + 1) (after b e) (es ++ fs))) both.0 in
    here ∙ refusal_behind (n + 1) (after b e) es fs both.1 ∙ ap (λ m. first_refusal m (kept (after b e) es) fs) (omega arith)

some_first : (n : ℕ) (j : Judgement) (later more : Option (ℕ × Refused)) (x : ℕ × Refused) → (later ≡ Some x → more ≡ Some x) → or_refusal n j later ≡ Some x
    → or_refusal n j more ≡ Some x
some_first n (Ok u) later more x go h = go h
some_first n (Err r) later more x go h = h

-- a refusal stays the first, whatever follows
pub refusal_stays : (n : ℕ) (b : State) (es fs : List Edge) (x : ℕ × Refused) → first_refusal n b es ≡ Some x → first_refusal n b (es ++ fs) ≡ Some x
refusal_stays n b [] fs x h = absurd cc
refusal_stays n b (e ∷ es) fs x h = some_first n (verdict b e) (first_refusal (n + 1) (after b e) es) (first_refusal (n + 1) (after b e) (es ++ fs)) x (refusal_stays (n + 1) (after b e) es fs x) h

after_ok : (b : State) (e : Edge) (j : Judgement) → verdict b e ≡ j → j ≡ Ok tt → after b e ≡ made b e
after_ok b e j is h = rw (is ∙ h) refl

-- edges of which none is refused are all kept
pub all_kept : (n : ℕ) (b : State) (es : List Edge) → first_refusal n b es ≡ None → kept b es ≡ record b { history = reverse es ++ b.history }
all_kept n b [] h = refl
all_kept n b (e ∷ es) h =
    let both = or_none n (verdict b e) (first_refusal (n + 1) (after b e) es) h in
    let one : after b e ≡ made b e = after_ok b e (verdict b e) refl both.0 in
    let rest : first_refusal (n + 1) (made b e) es ≡ None = subst (λ (s : State). first_refusal (n + 1) s es ≡ None) one both.1 in
    ap (λ s. kept s es) one ∙ all_kept (n + 1) (made b e) es rest
    ∙ ap (λ l. record b { history = l }) (sym (ap (λ l. l ++ b.history) (reverse-cons e es) ∙ append_assoc (reverse es) (e ∷ []) b.history))

-- edges lengthen a trace by each of them at most
kept_most : (b : State) (es : List Edge) → length (kept b es).history ≤ length b.history + length es
kept_most b [] = omega arith
kept_most b (e ∷ es) = by_verdict (is_ok (verdict b e)) (kept_most (made b e) es) (kept_most b es)
  where
    by_verdict : (x : Bool) → length (kept (made b e) es).history ≤ length (made b e).history + length es → length (kept b es).history ≤ length b.history + length es
        → length (kept (if x then made b e else b) es).history ≤ length b.history + length (e ∷ es)
    by_verdict true more same = omega (arith, more)
    by_verdict false more same = omega (arith, same)

-- and where they lengthen it by each, none of them is refused
pub none_refused : (n : ℕ) (b : State) (es : List Edge) → length (kept b es).history - length b.history ≡ length es → first_refusal n b es ≡ None
none_refused n b [] grown = refl
none_refused n b (e ∷ es) grown = by_verdict (verdict b e) (λ g. none_refused (n + 1) (made b e) es g) (kept_most b es) grown
  where
    by_verdict : (j : Judgement) → (length (kept (made b e) es).history - length (made b e).history ≡ length es → first_refusal (n + 1) (made b e) es ≡ None)
        → length (kept b es).history ≤ length b.history + length es
        → length (kept (if is_ok j then made b e else b) es).history - length b.history ≡ length (e ∷ es)
        → or_refusal n j (first_refusal (n + 1) (if is_ok j then made b e else b) es) ≡ None
    by_verdict (Ok u) others most grown = others (omega (arith, grown))
    by_verdict (Err refused) others most grown = absurd (omega (arith, grown, most))
