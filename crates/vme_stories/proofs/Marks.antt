-- The marks of a history, by the places of its edges, and the situations that they report.
use Rattle.std.specs.Prelude.{is_err, if◌then◌else◌, []}
use Rattle.std.proofs.Common.{◌≡◌, ◌+◌, ◌∷◌, ℕ, Bool, true, false, List, Option, Result, Ok, Err, is_ok, length, refl, sym, ◌∙◌, ap, subst, arith}
use Rattle.vme_model.specs.declared.signals.Cycle.{Cycle}
use Rattle.vme_model.specs.declared.signals.Edge.{Edge}
use Rattle.vme_model.specs.declared.signals.Wire.TheVariants.{Dtack}
use Rattle.vme_model.specs.declared.deliveries.Delivery.{Delivery}
use Rattle.vme_model.specs.declared.refusals.Refused.{Refused}
use Rattle.vme_model.specs.Deliveries.{answer, delivery, with_delivery}
use Rattle.vme_model.specs.History.{shown}
use Rattle.vme_model.specs.Numbered.{Numbered, edges_in}
use Rattle.vme_model.specs.Plan.{Plan}
use Rattle.vme_model.specs.Verdict.{State, Judgement, verdict}
use Rattle.vme_events.specs.Events.{events_of}
use Rattle.vme_stories.specs.Replies.{brought}
use Rattle.vme_explain.specs.declared.marks.Marks.{Marks}
use Rattle.vme_explain.specs.Marked.{IsMarksOf}
use Rattle.vme_events.specs.Places.{by_place}
use Rattle.vme_events.proofs.Places.{edges_placed}

-- with one edge more
pub marked_more : (p : Plan) (h : List Edge) (old new : Marks) (e : Edge) (n : ℕ) (v : Option Cycle)
    → n ≡ length (e ∷ h) → (e.wire ≡ Dtack → v ≡ shown p h) → IsMarksOf p (by_place h) old
    → ((q : Plan) (k : Numbered) → IsMarksOf q k old
    → (e.wire ≡ Dtack → v ≡ shown q (edges_in k)) → IsMarksOf q ((n, e) ∷ k) new)
    → IsMarksOf p (by_place (e ∷ h)) new
marked_more p h old new e n v at is marked noted =
    let place : n ≡ length h + 1 = omega (arith, at) in
    subst (λ i. IsMarksOf p ((i, e) ∷ by_place h) new) place
    (noted p (by_place h) marked
    (λ dtack. is dtack ∙ ap (shown p) (sym (edges_placed h))))

pub ok_of : {A E : Type 0} (r : Result A E) (t : Bool) → t ≡ is_err r → t ≡ false → is_ok r ≡ true
ok_of (Ok a) t is none = refl
ok_of (Err f) t is none = absurd (cc)

ok_with : (j : Judgement) (d : Option Delivery) → is_ok (with_delivery j d) ≡ is_ok j
ok_with (Ok u) d = refl
ok_with (Err r) d = refl

pub brought_if : (b : State) (e : Edge) (r : Result (Option Delivery) Refused) (t : Bool)
    → r ≡ answer b e → t ≡ is_ok r
    → (if t then events_of b.plan b.history e else []) ≡ brought b e
brought_if b e r t is ok =
    ap (λ (u : Bool). if u then events_of b.plan b.history e else []) (ok ∙ ap is_ok is
    ∙ ok_with (verdict b e) (delivery b.plan b.history e))
