-- An edge of a trace that is made and noted.
use Rattle.std.proofs.Common.{◌≡◌, ◌∙◌, ℕ, ◌∷◌, List, Bool, true, false, Option, Ok, Err, ap, if◌then◌else◌, is_ok, refl, subst, sym}
use Rattle.vme_model.specs.declared.deliveries.Delivery.{Delivery}
use Rattle.vme_model.specs.declared.signals.Cycle.{Cycle}
use Rattle.vme_model.specs.declared.signals.Edge.{Edge}
use Rattle.vme_model.specs.declared.signals.Wire.{Wire}
use Rattle.vme_model.specs.declared.signals.Wire.TheVariants.{Dtack}
use Rattle.vme_model.specs.Deliveries.{with_delivery}
use Rattle.vme_model.specs.History.{shown}
use Rattle.vme_model.specs.Numbered.{Numbered, edges_in, numbered_with}
use Rattle.vme_model.specs.Plan.{Plan}
use Rattle.vme_model.specs.Verdict.{State, Judgement, verdict, made, after}
use Rattle.vme_explain.specs.declared.marks.Marks.{Marks}
use Rattle.vme_explain.specs.Marked.{IsMarksOf}
use Rattle.vme_explain.specs.Traced.{OfTrace}

-- what is delivered does not change whether an edge is accepted
pub ok_with : (j : Judgement) (d : Option Delivery) → is_ok (with_delivery j d) ≡ is_ok j
ok_with (Ok u) d = refl
ok_with (Err r) d = refl

with_by : (t : Bool) (n : ℕ) (e : Edge) (k : Numbered) → t ≡ true → (if t then (n, e) ∷ k else k) ≡ (n, e) ∷ k
with_by t n e k is = rw is refl

made_by : (t : Bool) (b : State) (e : Edge) → t ≡ true → (if t then made b e else b) ≡ made b e
made_by t b e is = rw is refl

-- an edge of DTACK* leaves what is shown
shown_stays : (p : Plan) (h : List Edge) (e : Edge) → e.wire ≡ Dtack → shown p (e ∷ h) ≡ shown p h
shown_stays p h e is = subst (λ (w : Wire). shown p ((record e { wire = w }) ∷ h) ≡ shown p h) (sym is) refl

-- an accepted edge was noted, once it was made
pub noted : (b now : State) (n : ℕ) (e : Edge) (old new : Marks) (v : Option Cycle) → is_ok (verdict b e) ≡ true → now ≡ after b e → (e.wire ≡ Dtack → v ≡ shown now.plan now.history)
    → ((p : Plan) (k : Numbered) → IsMarksOf p k old → (e.wire ≡ Dtack → v ≡ shown p (edges_in k)) → IsMarksOf p ((n, e) ∷ k) new)
    → OfTrace b old (λ k. IsMarksOf b.plan (numbered_with b n e k) new)
noted b now n e old new v accepted is shows h =
    let behind : now ≡ made b e = is ∙ made_by (is_ok (verdict b e)) b e accepted in
    λ k edges of.
    subst (λ (m : Numbered). IsMarksOf b.plan m new) (sym (with_by (is_ok (verdict b e)) n e k accepted))
    (h b.plan k of (λ dtack. shows dtack ∙ ap (λ s. shown s.plan s.history) behind ∙ shown_stays b.plan b.history e dtack ∙ ap (shown b.plan) (sym edges)))

numbered_refused : (t : Bool) (n : ℕ) (e : Edge) (k : Numbered) → t ≡ false → (if t then (n, e) ∷ k else k) ≡ k
numbered_refused t n e k is = rw is refl

-- a refused edge is not noted
pub noted_refused : (b : State) (n : ℕ) (e : Edge) (old now : Marks) → now ≡ old → is_ok (verdict b e) ≡ false
    → OfTrace b old (λ k. IsMarksOf b.plan (numbered_with b n e k) now)
noted_refused b n e old now same refused =
    λ k edges of. subst (λ (m : Marks). IsMarksOf b.plan (numbered_with b n e k) m) (sym same)
    (subst (λ (l : Numbered). IsMarksOf b.plan l old) (sym (numbered_refused (is_ok (verdict b e)) n e k refused)) of)
