-- A trace that is followed edge by edge.
use Rattle.std.proofs.Common.{◌≡◌, ℕ, ◌+◌, List, [], ◌∷◌, ◌++◌, length, false, Result, Ok, Err, OnErr, is_ok, refl, sym, ◌∙◌, ap, subst, arith}
use Rattle.std.proofs.Math.ListN.{length-append}
use Rattle.vme_model.specs.declared.signals.Edge.{Edge}
use Rattle.vme_model.specs.declared.signals.Version.{Version}
use Rattle.vme_model.specs.Plan.{Plan}
use Rattle.vme_model.specs.Verdict.{State, after, kept}
use Rattle.vme_model.specs.Numbered.{Numbered, edges_in, numbered_with, numbered}
use Rattle.vme_explain.specs.declared.marks.Marks.{Marks}
use Rattle.vme_explain.specs.Marked.{IsMarksOf}
use Rattle.vme_explain.specs.Traced.{OfTrace}
use Rattle.vme_following.specs.declared.following.Following.{Following}
use Rattle.vme_reading.specs.Outcomes.{bench}
use Rattle.vme_following.specs.Followed.{IsAfter, IsOn, OfAfter, counted, printed_behind}
use Rattle.vme_reading.proofs.KeptEdges.{edges_on, kept_plan, numbered_append}
use Rattle.vme_reading.proofs.WrittenLines.{kept_append}

-- ---- what was followed

-- the bus and the marks of these edges of a trace
module _ (p : Plan) (v : Version) (es : List Edge) (b : State) (m : Marks) (is : IsOn p v es b m) where
  edges_so : edges_in (numbered (bench p v) es) ≡ b.history
  edges_so = edges_on (bench p v) 0 [] es refl ∙ ap (λ s. s.history) (sym is.kept_so)

  plan_so : b.plan ≡ p
  plan_so = ap (λ s. s.plan) is.kept_so ∙ kept_plan (bench p v) es

  marks_so : IsMarksOf b.plan (numbered (bench p v) es) m
  marks_so = subst (λ (q : Plan). IsMarksOf q (numbered (bench p v) es) m) (sym plan_so) is.marked

  -- what a text says of the numbered edges
  pub of_on : (n count : ℕ) (T : ℕ → State → Numbered → List ℕ) (W : List ℕ → Type 0) → n ≡ count
      → OfTrace b m (λ k. W (T n b k))
      → W (T count (kept (bench p v) es) (numbered (bench p v) es))
  of_on n count T W same h =
      let k = numbered (bench p v) es in
      subst (λ (s : State). W (T count s k)) is.kept_so
      (subst (λ (i : ℕ). W (T i b k)) same (h k edges_so marks_so))

  -- the next edge was made if it is accepted, and noted
  pub on_next : (e : Edge) (n : ℕ) (b' : State) (m' : Marks) → n ≡ length es + 1 → b' ≡ after b e
      → OfTrace b m (λ k. IsMarksOf b.plan (numbered_with b n e k) m') → IsOn p v (es ++ e ∷ []) b' m'
  on_next e n b' m' number made_so noted_so =
      let k = numbered (bench p v) es in
      let count : n ≡ (0 + length es) + 1 = omega (arith, number) in record {
        kept_so = made_so ∙ ap (λ s. after s e) is.kept_so ∙ sym (kept_append (bench p v) es (e ∷ []));
        marked =
            subst (λ (q : Plan). IsMarksOf q (numbered (bench p v) (es ++ e ∷ [])) m') plan_so
            (subst (λ (l : Numbered). IsMarksOf b.plan l m')
            (ap (λ i. numbered_with b i e k) count
            ∙ ap (λ s. numbered_with s ((0 + length es) + 1) e k) is.kept_so
            ∙ sym (numbered_append (bench p v) 0 [] es (e ∷ [])))
            (noted_so k edges_so marks_so));
      }

pub of_after : (f : Following) (T : ℕ → State → Numbered → List ℕ) (W : List ℕ → Type 0) → OfTrace f.bus f.marks (λ k. W (T f.judged f.bus k))
    → OfAfter f (λ p v es. W (printed_behind T p v es))
of_after f T W h =
    λ p v es is.
    of_on p v es f.bus f.marks (record { kept_so = is.bus; marked = is.marks }) f.judged (length es) T W is.judged h

pub after_next : (p : Plan) (v : Version) (es : List Edge) (e : Edge) (old now : Following) → IsAfter p v es old → now.bus ≡ after old.bus e → now.judged ≡ old.judged
    → OfTrace old.bus old.marks (λ k. IsMarksOf old.bus.plan (numbered_with old.bus (old.judged + 1) e k) now.marks) → IsAfter p v (es ++ e ∷ []) (counted now)
after_next p v es e old now is made_so same noted_so =
    let n = is.judged in
    let next = on_next p v es old.bus old.marks (record { kept_so = is.bus; marked = is.marks }) e (old.judged + 1) now.bus now.marks (ap (λ m. m + 1) n) made_so noted_so in
    record {
      bus = next.kept_so;
      judged = (let more = length-append es (e ∷ []) in omega (arith, n, same, more));
      marks = next.marked;
    }

-- a refused edge leaves the bus and the marks as they were
pub on_stays : {A E : Type 0} (p : Plan) (v : Version) (es : List Edge) (b now : State) (m noted : Marks) (r : Result A E) → is_ok r ≡ false → OnErr r ((now ≡ b) × (noted ≡ m)) → IsOn p v es b m
    → IsOn p v es now noted
on_stays p v es b now m noted (Ok a) is_err h is = absurd cc
on_stays p v es b now m noted (Err e) is_err h is = record {
  kept_so = h.0 ∙ is.kept_so;
  marked = subst (λ (n : Marks). IsMarksOf p (numbered (bench p v) es) n) (sym h.1) is.marked;
}
